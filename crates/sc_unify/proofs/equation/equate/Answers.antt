use Rattle.std.proofs.Common.{◌≡◌, ◌∙◌, sym, ap, ◌+◌, ℕ, List, ◌++◌, [], ◌∷◌, append_assoc, length, take, get_or, ◌<◌}
use Rattle.sc_term.specs.declared.Term.{Term}
use Rattle.sc_unify.specs.declared.equation.Equation.{Equation}
use Rattle.sc_unify.specs.Equations.{equations, equated}
use Rattle.sc_unify.proofs.Equations.{equated-more, equations-append}
use Rattle.sc_unify.proofs.equation.equate.Goals as goal

one_more : (old now new : List Equation) (e : Equation) (xs ys : List Term) (i : ℕ) → i < length xs → length xs ≡ length ys
    → equations now ≡ equations old ++ equated (take i xs) (take i ys) → new ≡ now ++ e ∷ []
    → e.left.now ≡ get_or xs i e.left.now → e.right.now ≡ get_or ys i e.right.now
    → equations new ≡ equations old ++ equated (take (i + 1) xs) (take (i + 1) ys)
one_more old now new e xs ys i h same before pushed left right =
    ap equations pushed ∙ equations-append now (e ∷ [])
    ∙ (λ j. before j ++ (record { left = left j; right = right j } ∷ []))
    ∙ append_assoc (equations old) (equated (take i xs) (take i ys)) (record { left = get_or xs i e.left.now; right = get_or ys i e.right.now } ∷ [])
    ∙ sym (ap (λ es. equations old ++ es) (equated-more xs ys i e.left.now e.right.now h same))

pub loop-i-preserved : goal.loop-i-preserved
loop-i-preserved c = one_more c.args.todo.now.items c.loop-i.todo.items c.push.new.self.items _ c.args.left.now c.args.right.now c.loop-i.i c.loop-i-test.true c.requires
    c.loop-i.invariant c.in_ok-push.ensures.items c.index-left-i.is c.index-right-i.is
