use Rattle.std.proofs.Common.{◌≡◌, ◌∙◌, sym, ap, subst, refl, ℕ, ◌+◌, ◌-◌, ◌^◌, ◌<◌, ◌≤◌, min, take, length, List, ◌++◌, Option, Some, None, slice_get, slice_index, arith}
use Rattle.std.specs.Option.{option_map}
use Rattle.std.proofs.lemmas.List.{take_all}
use Rattle.std.proofs.lemmas.Option.{slice_get_read}
use Rattle.sc_term.specs.declared.SymId.{SymId}
use Rattle.sc_term.specs.declared.Term.{Term}
use Rattle.sc_term.specs.declared.Term.TheVariants.{App}
use Rattle.sc_term.specs.Interpretation.{Assignment}
use Rattle.sc_term.specs.Numbering.{numbered}
use Rattle.sc_term.proofs.TermLaws.{fold-App}
use Rattle.sc_find_given.specs.Lookup.{place_in, number_in, value_at, look_up, found_step, found_term, found_terms}
use Rattle.sc_find_given.proofs.LookupLaws.{IsPlaced, placed, value_found, terms_many, terms_more, terms_none, terms_beyond, placed_more}
use Rattle.sc_find_given.proofs.WaitingLaws.{sees_found, sees_less, sees_same}
use Rattle.sc_find_given.proofs.evaluate.+evaluate.Goals as goal

pub value-returns-in-Ok : goal.value-returns-in-Ok
value-returns-in-Ok t c =
    let look : List ℕ → SymId → Option (List ℕ) → Option ℕ = λ g. look_up c.args.size c.args.rows.now g in
    let a : Assignment = slice_index c.args.values.now in
    let given : List ℕ = c.args.given.now in
    let args : List Term = c.as_slice.result.now in
    let is : c.args.term.now ≡ App c.in-App.f args = c.in-App.is ∙ ap (App c.in-App.f) (sym c.as_slice.ensures) in
    let p : List ℕ → Option ℕ = λ g. place_in c.args.size (found_terms (look g) a args) in
    let here = sees_found (λ g. option_map (λ n. min n (2 ^ 64 - 1)) (p g)) given c.place.result c.in-Ok.place c.place.ensures c.in-Ok.is in
    sees_same (λ g. value_at g (number_in (numbered c.args.rows.now c.in-App.f.0) c.len.result (p g))) (λ g. found_term (look g) a c.args.term.now) given c.found.result
    (λ more. value_found c.args.size c.args.rows.now (given ++ more) c.in-App.f c.len.result (found_terms (look (given ++ more)) a args)
    (λ ns e. terms_many (look (given ++ more)) a args ns e ∙ ap length c.as_slice.ensures ∙ sym c.len.ensures)
    ∙ sym (ap (found_term (look (given ++ more)) a) is ∙ fold-App (Option ℕ) (found_step (look (given ++ more)) a) c.in-App.f args))
    (c.found.ensures p (λ more. sym (here more)))

pub place-returns-then-element-size : goal.place-returns-then-element-size
place-returns-then-element-size t c =
    let look : List ℕ → SymId → Option (List ℕ) → Option ℕ = λ g. look_up c.args.size c.args.rows.now g in
    let a : Assignment = slice_index c.args.values.now in
    let given : List ℕ = c.args.given.now in
    let within : c.loop-arg.arg-index < length c.args.args.now = omega arith in
    let here : slice_get c.args.args.now c.loop-arg.arg-index ≡ Some c.arg-item.result
    = slice_get_read c.args.args.now (length c.args.args.now) c.loop-arg.arg-index c.arg-item.result refl within c.arg-item.is in
    let beyond : c.args.size ≤ c.in-Ok.element = omega arith in
    let found = sees_found (λ g. found_term (look g) a c.arg-item.result) given c.value.result c.in-Ok.element c.value.ensures c.in-Ok.is in
    let many : length given ≤ 2 ^ 64 - 1 = omega (arith, c.type_inv.given) in (
      many,
      λ more most. ap (option_map (λ n. min n (2 ^ 64 - 1)))
          (terms_beyond (look (given ++ more)) a c.args.size c.args.args.now c.loop-arg.arg-index c.in-Ok.element c.arg-item.result here (found more) beyond),
    )

pub place-loop-arg-preserved : goal.place-loop-arg-preserved
place-loop-arg-preserved t c =
    let look : List ℕ → SymId → Option (List ℕ) → Option ℕ = λ g. look_up c.args.size c.args.rows.now g in
    let a : Assignment = slice_index c.args.values.now in
    let given : List ℕ = c.args.given.now in
    let ts : List Term = c.args.args.now in
    let i : ℕ = c.loop-arg.arg-index in
    let within : c.loop-arg.arg-index < length c.args.args.now = omega arith in
    let here : slice_get c.args.args.now c.loop-arg.arg-index ≡ Some c.arg-item.result
    = slice_get_read c.args.args.now (length c.args.args.now) c.loop-arg.arg-index c.arg-item.result refl within c.arg-item.is in
    let small : c.in-Ok.element < c.args.size = omega arith in
    let found = sees_found (λ g. found_term (look g) a c.arg-item.result) given c.value.result c.in-Ok.element c.value.ensures c.in-Ok.is in
    λ more.
    placed_more c.args.size c.in-Ok.element c.loop-arg.at (found_terms (look (given ++ more)) a (take i ts)) (found_terms (look (given ++ more)) a (take (i + 1) ts)) c.saturating_add-at.result (c.loop-arg.invariant more) small
    (λ ns e. terms_more (look (given ++ more)) a ts i c.in-Ok.element c.arg-item.result ns here (found more) e) (omega (arith, c.saturating_mul.ensures, c.saturating_add-at.ensures))

pub place-returns-in-Err : goal.place-returns-in-Err
place-returns-in-Err t c =
    let look : List ℕ → SymId → Option (List ℕ) → Option ℕ = λ g. look_up c.args.size c.args.rows.now g in
    let a : Assignment = slice_index c.args.values.now in
    let within : c.loop-arg.arg-index < length c.args.args.now = omega arith in
    let here : slice_get c.args.args.now c.loop-arg.arg-index ≡ Some c.arg-item.result
    = slice_get_read c.args.args.now (length c.args.args.now) c.loop-arg.arg-index c.arg-item.result refl within c.arg-item.is in
    sees_less (λ g. found_term (look g) a c.arg-item.result) (λ g. option_map (λ n. min n (2 ^ 64 - 1)) (place_in c.args.size (found_terms (look g) a c.args.args.now)))
    c.args.given.now c.value.result c.in-Err.cell c.value.ensures c.in-Err.is
    (λ g none. ap (λ o. option_map (λ n. min n (2 ^ 64 - 1)) (place_in c.args.size o)) (terms_none (look g) a c.args.args.now c.loop-arg.arg-index c.arg-item.result here none))

pub place-returns : goal.place-returns
place-returns t c =
    let look : List ℕ → SymId → Option (List ℕ) → Option ℕ = λ g. look_up c.args.size c.args.rows.now g in
    let a : Assignment = slice_index c.args.values.now in
    let given : List ℕ = c.args.given.now in
    let past : length c.args.args.now ≤ c.loop-arg.arg-index = omega arith in
    let all : take c.loop-arg.arg-index c.args.args.now ≡ c.args.args.now = take_all c.loop-arg.arg-index c.args.args.now past in
    λ more. sym (placed c.args.size (found_terms (look (given ++ more)) a c.args.args.now) c.loop-arg.at
    (subst (λ (ts : List Term). IsPlaced c.args.size (found_terms (look (given ++ more)) a ts) c.loop-arg.at) all (c.loop-arg.invariant more)))
