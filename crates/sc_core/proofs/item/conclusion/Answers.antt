use Rattle.std.proofs.Common.{◌∙◌, sym, subst, ℕ, ◌<◌, ◌≤◌, List, length}
use Rattle.std.specs.List.{All}
use Rattle.sc_core_rules.specs.Book.{numbered_clauses}
use Rattle.sc_core_sites.specs.Sites.{site_of}
use Rattle.sc_core.specs.Parents.{AreParents}
use Rattle.sc_core.proofs.CountLaws.{count_all}
use Rattle.sc_core.proofs.UsableLaws.{all_positive, all_within, parents_kept, given_kept, given_same, parents_infer, usable_conclusion}
use Rattle.sc_core.proofs.item.conclusion.Goals as goal

pub fetch-requires-clause-there : goal.fetch-requires-clause-there
fetch-requires-clause-there c =
    subst (All (λ (n : ℕ). 0 < n)) (sym (c.as_slice.ensures ∙ c.in_ok-numbers.ensures))
    (all_positive (numbered_clauses c.args.book.now.problem c.args.book.now.book) c.args.given.now c.requires.0 (site_of c.args.site.now) c.requires.1)

pub fetch-requires-clause-within : goal.fetch-requires-clause-within
fetch-requires-clause-within c =
    subst (λ (m : ℕ). All (λ (n : ℕ). n ≤ m) c.as_slice.result.now) (count_all c.args.book.now.problem.inputs c.args.book.now.book.derived)
    (subst (All (λ (n : ℕ). n ≤ length (numbered_clauses c.args.book.now.problem c.args.book.now.book))) (sym (c.as_slice.ensures ∙ c.in_ok-numbers.ensures))
    (all_within (numbered_clauses c.args.book.now.problem c.args.book.now.book) c.args.given.now c.requires.0 (site_of c.args.site.now) c.requires.1))

pub conclude-requires-clause-given : goal.conclude-requires-clause-given
conclude-requires-clause-given c =
    let clauses = numbered_clauses c.args.book.now.problem c.args.book.now.book in
    given_kept clauses c.args.given.now c.requires.0 (site_of c.args.site.now) c.requires.1 c.in_ok-parents.parents
    (subst (λ (ns : List ℕ). AreParents clauses ns c.in_ok-parents.parents) (c.as_slice.ensures ∙ c.in_ok-numbers.ensures) c.in_ok-parents.ensures)

pub conclude-requires-clause-kept : goal.conclude-requires-clause-kept
conclude-requires-clause-kept c =
    let clauses = numbered_clauses c.args.book.now.problem c.args.book.now.book in
    parents_kept clauses c.args.given.now c.requires.0 (site_of c.args.site.now) c.requires.1 c.in_ok-parents.parents
    (subst (λ (ns : List ℕ). AreParents clauses ns c.in_ok-parents.parents) (c.as_slice.ensures ∙ c.in_ok-numbers.ensures) c.in_ok-parents.ensures)

pub conclude-requires-clause-same : goal.conclude-requires-clause-same
conclude-requires-clause-same c =
    let clauses = numbered_clauses c.args.book.now.problem c.args.book.now.book in
    given_same clauses c.args.given.now c.requires.0 (site_of c.args.site.now) c.requires.1 c.in_ok-parents.parents
    (subst (λ (ns : List ℕ). AreParents clauses ns c.in_ok-parents.parents) (c.as_slice.ensures ∙ c.in_ok-numbers.ensures) c.in_ok-parents.ensures)

pub conclude-requires-clause-site : goal.conclude-requires-clause-site
conclude-requires-clause-site c =
    let clauses = numbered_clauses c.args.book.now.problem c.args.book.now.book in
    parents_infer clauses c.args.given.now c.requires.0 (site_of c.args.site.now) c.requires.1 c.in_ok-parents.parents
    (subst (λ (ns : List ℕ). AreParents clauses ns c.in_ok-parents.parents) (c.as_slice.ensures ∙ c.in_ok-numbers.ensures) c.in_ok-parents.ensures)

pub returns : goal.returns
returns c usable is =
    let clauses = numbered_clauses c.args.book.now.problem c.args.book.now.book in
    usable_conclusion clauses c.args.given.now usable (site_of c.args.site.now) is c.in_ok-parents.parents
    (subst (λ (ns : List ℕ). AreParents clauses ns c.in_ok-parents.parents) (c.as_slice.ensures ∙ c.in_ok-numbers.ensures) c.in_ok-parents.ensures)
    c.in_ok-made.made c.in_ok-made.ensures
