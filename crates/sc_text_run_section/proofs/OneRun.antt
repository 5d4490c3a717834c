-- What reading a whole run gives, by what its parts give.
use Rattle.std.proofs.Common.{◌≡◌, ◌∙◌, sym, ap, subst, List, [], ◌∷◌, Ok, Err}
use Rattle.std.specs.Prelude.{codes}
use Rattle.sc_term.specs.declared.symbol.Symbol.{Symbol}
use Rattle.sc_core_rules.specs.declared.row.Outcome.{Outcome}
use Rattle.sc_input_rules.specs.declared.token.Token.{Token}
use Rattle.sc_input_rules.specs.Reader.{Read, ◌>>=◌, unexpected}
use Rattle.sc_input_scan.specs.declared.stop.Stop.{Stop}
use Rattle.sc_input_scan.specs.declared.stop.Stop.TheVariants.{Memory, At}
use Rattle.sc_input_scan.specs.Told.{Fails}
use Rattle.sc_input_grammar.proofs.Lists.{fails_on}
use Rattle.sc_text_section.specs.Clipped.{seen_by}
use Rattle.sc_text_section.proofs.Sequences.{WasRead, was_read, fails_unseen}
use Rattle.sc_text_rules.specs.ProofGrammar.{the_heading, alone}
use Rattle.sc_text_run_rules.specs.RunValue.{VersionValue, RunValue}
use Rattle.sc_text_run_rules.specs.RunSection.{Heading, Turns, MarkedProof, a_run_heading, version_lists, turns, proof_behind, run_of_parts, run_section}
use Rattle.sc_text_run_section.specs.Seen.{clipped_turns, clipped_proof, clipped_run}

abbrev Lists : Type 0
Lists = List (List VersionValue)

-- ---- before the versions

abbrev behind_heading : List Symbol → Heading × List Token → Read RunValue
behind_heading symbols h =
    version_lists symbols h.0.lists h.1 >>= λ ls. turns symbols h.0.lists ls.1 >>= λ t. proof_behind t.0.outcome symbols t.1 >>= λ p.
    the_heading (codes "end_of_run") p.1 >>= λ end. Ok (run_of_parts h.0 ls.0 t.0 p.0, end.1)

pub heading_fails : (symbols : List Symbol) (tokens : List Token) (e : Stop) → Fails e (a_run_heading tokens) → Fails e (seen_by clipped_run (run_section symbols tokens))
heading_fails symbols tokens e f =
    fails_on e (run_section symbols tokens) (λ v. Ok (clipped_run v.0, v.1)) (fails_on e (a_run_heading tokens) (behind_heading symbols) f)

-- ---- nothing stands behind it

pub alone_fails : {A B : Type 0} (f : A → B) (read : Read A) (e : Stop) → Fails e (seen_by f read) → Fails e (seen_by f (alone read))
alone_fails f read Memory h = tt
alone_fails f (Ok r) (At left kind) h = absurd cc
alone_fails f (Err e') (At left kind) h = h

pub alone_seen : {A B : Type 0} (f : A → B) (read : Read A) (y : B) (rest : List Token) → seen_by f read ≡ Ok (y, rest) → rest ≡ [] → seen_by f (alone read) ≡ Ok (y, rest)
alone_seen {A} {B} f (Ok r) y rest e none =
    let both : (f r.0, r.1) ≡ (y, rest) = cc in
    let empty : r.1 ≡ [] = ap (λ (q : B × List Token). q.1) both ∙ none in
    ap (λ (ts : List Token). seen_by f (elim ts as (λ _. Read A) [ [] ↦ Ok r | t ∷ tokens ↦ unexpected (t ∷ tokens) ])) empty ∙ e
alone_seen f (Err e') y rest e none = absurd cc

-- ---- part by part

module _ (symbols : List Symbol) (tokens first : List Token) (h : Heading) (heading : a_run_heading tokens ≡ Ok (h, first)) where
  abbrev behind_proof : Lists → Turns → MarkedProof × List Token → Read RunValue
  behind_proof ls t p = the_heading (codes "end_of_run") p.1 >>= λ end. Ok (run_of_parts h ls t p.0, end.1)

  abbrev behind_turns : Lists → Turns × List Token → Read RunValue
  behind_turns ls t = proof_behind t.0.outcome symbols t.1 >>= behind_proof ls t.0

  abbrev behind_lists : Lists × List Token → Read RunValue
  behind_lists ls = turns symbols h.lists ls.1 >>= behind_turns ls.0

  abbrev whole : Read RunValue
  whole = run_section symbols tokens

  abbrev FailsSeen : Stop → Type 0
  FailsSeen e = Fails e (seen_by clipped_run whole)

  up_to_lists : whole ≡ (version_lists symbols h.lists first >>= behind_lists)
  up_to_lists = ap (λ (r : Read Heading). r >>= λ g. version_lists symbols g.0.lists g.1 >>= λ ls. turns symbols g.0.lists ls.1 >>= λ t. proof_behind t.0.outcome symbols t.1 >>= λ p. the_heading (codes "end_of_run") p.1 >>= λ end. Ok (run_of_parts g.0 ls.0 t.0 p.0, end.1)) heading

  seen_fails : (e : Stop) (r : Read RunValue) → whole ≡ r → Fails e r → FailsSeen e
  seen_fails e r is f = fails_on e whole (λ v. Ok (clipped_run v.0, v.1)) (subst (λ (r : Read RunValue). Fails e r) (sym is) f)

  pub lists_fail : (e : Stop) → Fails e (version_lists symbols h.lists first) → FailsSeen e
  lists_fail e f = seen_fails e _ up_to_lists (fails_on e (version_lists symbols h.lists first) behind_lists f)

  module _ (ls : Lists) (second : List Token) (versions : version_lists symbols h.lists first ≡ Ok (ls, second)) where
    up_to_turns : whole ≡ behind_lists (ls, second)
    up_to_turns = up_to_lists ∙ ap (λ (r : Read Lists). r >>= behind_lists) versions

    pub turns_fail : (e : Stop) → Fails e (seen_by clipped_turns (turns symbols h.lists second)) → FailsSeen e
    turns_fail e f =
        seen_fails e _ up_to_turns (fails_on e (turns symbols h.lists second) (behind_turns ls) (fails_unseen clipped_turns (turns symbols h.lists second) e f))

    module _ (t : Turns) (third : List Token) (turned : seen_by clipped_turns (turns symbols h.lists second) ≡ Ok (t, third)) where
      wt : WasRead clipped_turns (turns symbols h.lists second) t third
      wt = was_read clipped_turns (turns symbols h.lists second) t third turned

      same : wt.value.outcome ≡ t.outcome
      same = sym (ap (λ (u : Turns). u.outcome) wt.is)

      up_to_proof : whole ≡ behind_turns ls (wt.value, third)
      up_to_proof = up_to_turns ∙ ap (λ (r : Read Turns). r >>= behind_turns ls) wt.was

      pub proof_fails : (e : Stop) → Fails e (seen_by clipped_proof (proof_behind t.outcome symbols third)) → FailsSeen e
      proof_fails e f =
          seen_fails e _ up_to_proof
          (fails_on e (proof_behind wt.value.outcome symbols third) (behind_proof ls wt.value)
          (subst (λ (o : Outcome). Fails e (proof_behind o symbols third)) (sym same) (fails_unseen clipped_proof (proof_behind t.outcome symbols third) e f)))

      module _ (p : MarkedProof) (fourth : List Token) (proved : seen_by clipped_proof (proof_behind t.outcome symbols third) ≡ Ok (p, fourth)) where
        wp : WasRead clipped_proof (proof_behind t.outcome symbols third) p fourth
        wp = was_read clipped_proof (proof_behind t.outcome symbols third) p fourth proved

        up_to_end : whole ≡ behind_proof ls wt.value (wp.value, fourth)
        up_to_end =
            up_to_proof ∙ ap (λ (o : Outcome). proof_behind o symbols third >>= behind_proof ls wt.value) same
            ∙ ap (λ (r : Read MarkedProof). r >>= behind_proof ls wt.value) wp.was

        pub end_fails : (e : Stop) → Fails e (the_heading (codes "end_of_run") fourth) → FailsSeen e
        end_fails e f =
            seen_fails e _ up_to_end (fails_on e (the_heading (codes "end_of_run") fourth) (λ end. Ok (run_of_parts h ls wt.value wp.value, end.1)) f)

        pub run_made : (after : List Token) → the_heading (codes "end_of_run") fourth ≡ Ok (tt, after) → seen_by clipped_run whole ≡ Ok (run_of_parts h ls t p, after)
        run_made after end =
            ap (seen_by clipped_run) up_to_end
            ∙ ap (λ (r : Read (Unit {0})). seen_by clipped_run (r >>= λ end. Ok (run_of_parts h ls wt.value wp.value, end.1))) end
            ∙ sym (λ j. Ok (run_of_parts h ls (wt.is j) (wp.is j), after))
