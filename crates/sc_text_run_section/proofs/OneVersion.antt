-- What reading the tables and claims of a version gives.
use Rattle.std.proofs.Common.{◌≡◌, ◌∙◌, ap, subst, sym, ℕ, List, Ok}
use Rattle.sc_term.specs.declared.symbol.Symbol.{Symbol}
use Rattle.sc_input_rules.specs.declared.token.Token.{Token}
use Rattle.sc_input_rules.specs.Reader.{Read, ◌>>=◌}
use Rattle.sc_input_scan.specs.declared.stop.Stop.{Stop}
use Rattle.sc_input_scan.specs.Told.{Fails}
use Rattle.sc_input_grammar.proofs.Lists.{fails_on}
use Rattle.sc_text_run_rules.specs.ModelText.{without_equality}
use Rattle.sc_text_run_rules.specs.RunValue.{VersionValue}
use Rattle.sc_text_run_rules.specs.VersionGrammar.{tables, claims, version_behind}

module _ (symbols : List Symbol) (size told : ℕ) (tokens first : List Token) (rows : List (List ℕ)) (same : told ≡ size) (read : tables told (without_equality symbols) tokens ≡ Ok (rows, first)) where
  abbrev with_claims : List (List ℕ) → List ℕ × List Token → Read VersionValue
  with_claims entries ns = Ok (record { size = size; entries = entries; claims = ns.0 }, ns.1)

  abbrev behind_tables : List (List ℕ) × List Token → Read VersionValue
  behind_tables entries = claims entries.1 >>= with_claims entries.0

  up_to_claims : version_behind symbols size tokens ≡ (claims first >>= with_claims rows)
  up_to_claims =
      ap (λ (k : ℕ). tables k (without_equality symbols) tokens >>= behind_tables) (sym same)
      ∙ ap (λ (r : Read (List (List ℕ))). r >>= behind_tables) read

  pub claims_fail : (e : Stop) → Fails e (claims first) → Fails e (version_behind symbols size tokens)
  claims_fail e h = subst (λ (r : Read VersionValue). Fails e r) (sym up_to_claims) (fails_on e (claims first) (with_claims rows) h)

  pub version_made : (ns : List ℕ) (after : List Token) (made : List (List ℕ)) → claims first ≡ Ok (ns, after) → made ≡ rows
      → version_behind symbols size tokens ≡ Ok (record { size = told; entries = made; claims = ns }, after)
  version_made ns after made c is =
      up_to_claims ∙ ap (λ (r : Read (List ℕ)). r >>= with_claims rows) c
      ∙ (λ j. Ok (record { size = sym same j; entries = sym is j; claims = ns }, after))
