use Rattle.std.proofs.Common.{◌≡◌, sym, subst, IfOk, IsTrue, ◌↔◌, MatchOption}
use Rattle.sc_unify.specs.Matching.{IsMatch, HasNoMatch}
use Rattle.sc_index.specs.Entries.{HasInstance}
use Rattle.sc_index.proofs.EntryLaws.{has_some, has_none}
use Rattle.sc_index.proofs.entries.has_instance.Goals as goal
use Rattle.sc_index.proofs.entries.has_instance.Goals.{in-Some, in-None}

pub returns : goal.returns
returns c =
    let p = c.args.pattern.now in
    let t = c.args.target.now in
    elim c.match-branch-2.branch [
      | in-Some w ↦
          subst (λ r. IfOk r (λ has. IsTrue has ↔ HasInstance p t)) (sym w.result-is)
          (has_some p t w.in-Some.field-0 (subst (λ o. MatchOption o (HasNoMatch p t) (λ terms. IsMatch p t terms)) w.in-Some.is c.in_ok-match_onto.ensures))
      | in-None w ↦
          subst (λ r. IfOk r (λ has. IsTrue has ↔ HasInstance p t)) (sym w.result-is)
          (has_none p t (subst (λ o. MatchOption o (HasNoMatch p t) (λ terms. IsMatch p t terms)) w.in-None.is c.in_ok-match_onto.ensures))
    ]
