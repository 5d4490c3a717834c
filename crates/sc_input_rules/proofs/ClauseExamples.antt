-- Some clauses, by computation.
use Rattle.std.proofs.Common.{◌≡◌, refl, [], ◌∷◌, Ok, Err, true, false}
use Rattle.std.specs.Prelude.{codes, negsuc}
use Rattle.sc_input_rules.specs.declared.fault.InputKind.TheVariants.{Truncated, Unexpected, Unsupported}
use Rattle.sc_input_rules.specs.declared.token.Token.TheVariants.{Word, Punctuation}
use Rattle.sc_input_rules.specs.declared.token.Sign.TheVariants.{Close, Stop}
use Rattle.sc_input_rules.specs.Tokens.{tokens}
use Rattle.sc_input_rules.specs.ClauseGrammar.{clause}
use Rattle.sc_input_rules.specs.ProblemGrammar.{problem, Setting, Listing, Assignment}

two : clause (tokens (codes "-p(x) | (q(f(x),a)!=b)."))
    ≡ Ok (
      record { positive = false; predicate = record { at = 1; name = codes "p"; arity = 1 }; arguments = record { at = 3; name = codes "x"; arity = 0 } ∷ [] }
          ∷ record {
            positive = false;
            predicate = record { at = 18; name = codes "="; arity = 2 };
            arguments =
                record { at = 9; name = codes "q"; arity = 2 } ∷ record { at = 11; name = codes "f"; arity = 1 } ∷ record { at = 13; name = codes "x"; arity = 0 } ∷ record { at = 16; name = codes "a"; arity = 0 } ∷ record { at = 20; name = codes "b"; arity = 0 } ∷ [];
          } ∷ [],
      Punctuation 22 Stop ∷ [],
    )
two = refl

-- a comma too many, and the end inside a literal
comma : clause (tokens (codes "p(a,)")) ≡ Err (record { left = Punctuation 4 Close ∷ []; kind = Unexpected })
comma = refl

cut_off : clause (tokens (codes "p|q(a")) ≡ Err (record { left = []; kind = Truncated })
cut_off = refl

bracket : clause (tokens (codes "-(a)")) ≡ Err (record { left = Punctuation 3 Close ∷ []; kind = Unexpected })
bracket = refl

cut_item : problem (tokens (codes "list(sos).\np(a")) ≡ Err (record { left = []; kind = Truncated })
cut_item = refl

unsupported : problem (tokens (codes "set(auto).")) ≡ Err (record { left = Word 4 (codes "auto") ∷ Punctuation 8 Close ∷ Punctuation 9 Stop ∷ []; kind = Unsupported })
unsupported = refl

two_items : problem (tokens (codes "set(factor). list(sos). p(a). -p(x) | q(x). end_of_list. assign(max_weight,-07)."))
    ≡ Ok (
      Setting (record { at = 4; text = codes "factor" }) true
          ∷ Listing (record { at = 18; text = codes "sos" })
          ((record { positive = true; predicate = record { at = 24; name = codes "p"; arity = 1 }; arguments = record { at = 26; name = codes "a"; arity = 0 } ∷ [] } ∷ [])
          ∷ (record { positive = false; predicate = record { at = 31; name = codes "p"; arity = 1 }; arguments = record { at = 33; name = codes "x"; arity = 0 } ∷ [] }
          ∷ record { positive = true; predicate = record { at = 38; name = codes "q"; arity = 1 }; arguments = record { at = 40; name = codes "x"; arity = 0 } ∷ [] } ∷ []) ∷ [])
          ∷ Assignment (record { at = 64; text = codes "max_weight" }) (negsuc 6) ∷ [],
      [],
    )
two_items = refl
