use Rattle.std.proofs.Common.{◌≡◌, ◌∙◌, ap, ℕ, ◌+◌, List, ◌∷◌, [], ◌++◌, arith}
use Rattle.sc_term.specs.declared.Clause.{Clause}
use Rattle.sc_term.specs.Clause.{width}
use Rattle.sc_term.specs.JointInstance.{apart, shift}
use Rattle.sc_keep.proofs.PartLaws.{renamed_widths}
use Rattle.sc_keep.proofs.parts.renamed_apart.Goals as goal

is_apart : (n m : Clause) (none one two : List Clause) (first second : Clause) (by : ℕ) → none ≡ [] → one ≡ none ++ first ∷ [] → two ≡ one ++ second ∷ [] → first ≡ shift 0 n → second ≡ shift by m → by ≡ width n
    → two ≡ apart (n ∷ m ∷ [])
is_apart n m none one two first second by empty begun ended is_first is_second low =
    let e : width n ≡ 0 + width n = omega arith in
    ended ∙ (λ i. (begun ∙ ap (λ cs. cs ++ first ∷ []) empty) i ++ second ∷ []) ∙ (λ i. is_first i ∷ (is_second ∙ ap (λ k. shift k m) (low ∙ e)) i ∷ [])

pub returns-clause-width : goal.returns-clause-width
returns-clause-width c = renamed_widths c.args.n.now c.args.m.now c.push-2.new.self
    (is_apart c.args.n.now c.args.m.now c.new-renamed.result c.push.new.self c.push-2.new.self c.in_ok-shift.field-0 c.in_ok-shift-2.field-0 c.width.result
    c.new-renamed.ensures c.in_ok-push.ensures.ok c.in_ok-push-2.ensures.ok c.in_ok-shift.ensures c.in_ok-shift-2.ensures c.width.ensures) c.requires
