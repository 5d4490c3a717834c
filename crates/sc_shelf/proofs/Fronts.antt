-- Lists that begin with others.
use Rattle.std.proofs.Common.{◌≡◌, List, [], ◌++◌, sym, ap, ◌∙◌, append_assoc, arith, rules}
use Rattle.std.specs.Prelude.{length, drop}
use Rattle.std.proofs.lemmas.Grind.{common_steps}
use Rattle.std.proofs.lemmas.List.{take-append-drop}
use Rattle.sc_shelf.specs.Entries.{StartsWith}

pub of_rest : {X : Type 0} (xs front rest : List X) → xs ≡ front ++ rest → StartsWith xs front
of_rest xs front rest e = grind (arith, common_steps, e)

pub to_rest : {X : Type 0} (xs front : List X) → StartsWith xs front → xs ≡ front ++ drop (length front) xs
to_rest xs front e = sym (take-append-drop (length front) xs) ∙ ap (λ l. l ++ drop (length front) xs) e

pub starts_itself : {X : Type 0} (xs : List X) → StartsWith xs xs
starts_itself xs = of_rest xs xs [] (search rules)

pub starts_trans : {X : Type 0} (xs ys zs : List X) → StartsWith xs ys → StartsWith ys zs → StartsWith xs zs
starts_trans xs ys zs a b =
    let c = drop (length ys) xs in
    let d = drop (length zs) ys in
    of_rest xs zs (d ++ c) (to_rest xs ys a ∙ ap (λ l. l ++ c) (to_rest ys zs b) ∙ append_assoc zs d c)
