use Rattle.std.proofs.Common.{◌≡◌, ◌∙◌, sym, ap, subst, refl, ℕ, ◌<◌, ◌≤◌, length, take, true, List, ◌++◌, Option, Some, is_some, slice_get, slice_index, arith}
use Rattle.std.specs.Option.{option_map}
use Rattle.std.proofs.lemmas.List.{take_all}
use Rattle.std.proofs.lemmas.Option.{slice_get_read}
use Rattle.sc_term.specs.declared.SymId.{SymId}
use Rattle.sc_term.specs.declared.Term.{Term}
use Rattle.sc_term.specs.Interpretation.{Assignment, are_equal}
use Rattle.sc_find_given.specs.Lookup.{look_up, found_term, found_terms}
use Rattle.sc_find_given.proofs.LookupLaws.{terms_none, terms_some, not_two}
use Rattle.sc_find_given.proofs.WaitingLaws.{sees_found, sees_less}
use Rattle.sc_find_given.proofs.evaluate.odd_equation.Goals as goal

pub returns-in-Err : goal.returns-in-Err
returns-in-Err c =
    let look : List ℕ → SymId → Option (List ℕ) → Option ℕ = λ g. look_up c.args.size c.args.rows.now g in
    let a : Assignment = slice_index c.args.values.now in
    let within : c.loop-arg.arg-index < length c.args.args.now = omega arith in
    let here : slice_get c.args.args.now c.loop-arg.arg-index ≡ Some c.arg-item.result
    = slice_get_read c.args.args.now (length c.args.args.now) c.loop-arg.arg-index c.arg-item.result refl within c.arg-item.is in
    sees_less (λ g. found_term (look g) a c.arg-item.result) (λ g. option_map are_equal (found_terms (look g) a c.args.args.now)) c.args.given.now c.value.result c.in-Err.cell c.value.ensures c.in-Err.is
    (λ g none. ap (option_map are_equal) (terms_none (look g) a c.args.args.now c.loop-arg.arg-index c.arg-item.result here none))

pub loop-arg-preserved : goal.loop-arg-preserved
loop-arg-preserved c =
    let look : List ℕ → SymId → Option (List ℕ) → Option ℕ = λ g. look_up c.args.size c.args.rows.now g in
    let a : Assignment = slice_index c.args.values.now in
    let given : List ℕ = c.args.given.now in
    let within : c.loop-arg.arg-index < length c.args.args.now = omega arith in
    let here : slice_get c.args.args.now c.loop-arg.arg-index ≡ Some c.arg-item.result
    = slice_get_read c.args.args.now (length c.args.args.now) c.loop-arg.arg-index c.arg-item.result refl within c.arg-item.is in
    let found = sees_found (λ g. found_term (look g) a c.arg-item.result) given c.value.result c.in-Ok.field-0 c.value.ensures c.in-Ok.is in
    λ more. terms_some (look (given ++ more)) a c.args.args.now c.loop-arg.arg-index c.in-Ok.field-0 c.arg-item.result here (found more) (c.loop-arg.invariant more)

pub returns : goal.returns
returns c =
    let look : List ℕ → SymId → Option (List ℕ) → Option ℕ = λ g. look_up c.args.size c.args.rows.now g in
    let a : Assignment = slice_index c.args.values.now in
    let given : List ℕ = c.args.given.now in
    let past : length c.args.args.now ≤ c.loop-arg.arg-index = omega arith in
    let all : take c.loop-arg.arg-index c.args.args.now ≡ c.args.args.now = take_all c.loop-arg.arg-index c.args.args.now past in
    λ more. sym (not_two (look (given ++ more)) a c.args.args.now c.requires
    (subst (λ (ts : List Term). is_some (found_terms (look (given ++ more)) a ts) ≡ true) all (c.loop-arg.invariant more)))
