-- What reading a table gives, by what its parts give.
use Rattle.std.proofs.Common.{◌≡◌, ◌∙◌, sym, ap, subst, ℕ, ◌^◌, List, length, Ok}
use Rattle.sc_term.specs.declared.symbol.Symbol.{Symbol}
use Rattle.sc_input_rules.specs.declared.token.Token.{Token}
use Rattle.sc_input_rules.specs.declared.token.Sign.TheVariants.{Stop as TheStop, Colon}
use Rattle.sc_input_rules.specs.Reader.{Read, ◌>>=◌, the_sign, the_word}
use Rattle.sc_input_scan.specs.declared.stop.Stop.{Stop}
use Rattle.sc_input_scan.specs.Told.{Fails}
use Rattle.sc_input_grammar.proofs.Lists.{fails_on}
use Rattle.sc_text_run_rules.specs.ModelText.{role_word}
use Rattle.sc_text_run_rules.specs.RowWords.{the_row_number, counted}
use Rattle.sc_text_run_rules.specs.VersionGrammar.{an_entry, a_table}

module _ (size : ℕ) (s : Symbol) (tokens first second third fourth : List Token) (written n count : ℕ) (role : the_word (role_word s.role) tokens ≡ Ok (tt, first)) (name : the_word s.name first ≡ Ok (tt, second))
    (same : written ≡ s.arity) (arity : the_row_number written second ≡ Ok (n, third)) (colon : the_sign Colon third ≡ Ok (tt, fourth)) (many : count ≡ size ^ s.arity) where
  abbrev entries : ℕ → List Token → Read (List ℕ)
  entries k ts = counted (λ i. an_entry s.role size) (length ts) 0 k ts

  abbrev behind_entries : List ℕ × List Token → Read (List ℕ)
  behind_entries es = the_sign TheStop es.1 >>= λ stop. Ok (es.0, stop.1)

  abbrev behind_colon : (Unit {0}) × List Token → Read (List ℕ)
  behind_colon c = entries (size ^ s.arity) c.1 >>= behind_entries

  abbrev behind_arity : ℕ × List Token → Read (List ℕ)
  behind_arity a = the_sign Colon a.1 >>= behind_colon

  abbrev behind_name : (Unit {0}) × List Token → Read (List ℕ)
  behind_name w = the_row_number s.arity w.1 >>= behind_arity

  up_to_entries : a_table size s tokens ≡ (entries count fourth >>= behind_entries)
  up_to_entries =
      ap (λ (r : Read (Unit {0})). r >>= λ w. the_word s.name w.1 >>= behind_name) role
      ∙ ap (λ (r : Read (Unit {0})). r >>= behind_name) name
      ∙ ap (λ (k : ℕ). the_row_number k second >>= behind_arity) (sym same)
      ∙ ap (λ (r : Read ℕ). r >>= behind_arity) arity
      ∙ ap (λ (r : Read (Unit {0})). r >>= behind_colon) colon
      ∙ ap (λ (k : ℕ). entries k fourth >>= behind_entries) (sym many)

  pub entries_fail : (e : Stop) → Fails e (entries count fourth) → Fails e (a_table size s tokens)
  entries_fail e h = subst (λ (r : Read (List ℕ)). Fails e r) (sym up_to_entries) (fails_on e (entries count fourth) behind_entries h)

  module _ (es : List ℕ) (fifth : List Token) (read : entries count fourth ≡ Ok (es, fifth)) where
    up_to_stop : a_table size s tokens ≡ behind_entries (es, fifth)
    up_to_stop = up_to_entries ∙ ap (λ (r : Read (List ℕ)). r >>= behind_entries) read

    pub stop_fails : (e : Stop) → Fails e (the_sign TheStop fifth) → Fails e (a_table size s tokens)
    stop_fails e h = subst (λ (r : Read (List ℕ)). Fails e r) (sym up_to_stop) (fails_on e (the_sign TheStop fifth) (λ stop. Ok (es, stop.1)) h)

    pub table_made : (after : List Token) → the_sign TheStop fifth ≡ Ok (tt, after) → a_table size s tokens ≡ Ok (es, after)
    table_made after stop = up_to_stop ∙ ap (λ (r : Read (Unit {0})). r >>= λ stop. Ok (es, stop.1)) stop
