use Rattle.std.proofs.Common.{◌≡◌, sym, ap, refl, ℕ, ◌<◌, ◌++◌, length, List, Option, Some, slice_get, slice_index, arith}
use Rattle.std.specs.Option.{option_map}
use Rattle.std.proofs.lemmas.Option.{slice_get_read}
use Rattle.sc_term.specs.declared.SymId.{SymId}
use Rattle.sc_term.specs.Interpretation.{Assignment, are_equal}
use Rattle.sc_find_given.specs.Lookup.{look_up, found_term, found_terms}
use Rattle.sc_find_given.proofs.LookupLaws.{two_values, terms_none}
use Rattle.sc_find_given.proofs.WaitingLaws.{sees_less}
use Rattle.sc_find_given.proofs.evaluate.equation.Goals as goal

pub returns-in-Ok-value : goal.returns-in-Ok-value
returns-in-Ok-value c =
    let look : List ℕ → SymId → Option (List ℕ) → Option ℕ = λ g. look_up c.args.size c.args.rows.now g in
    let a : Assignment = slice_index c.args.values.now in
    let given : List ℕ = c.args.given.now in
    λ more. sym (two_values (look (given ++ more)) a c.args.args.now c.index-args-0.result c.index-args-1.result c.in-Ok.left c.in-Ok-value.right c.if-args-ne2.false
    c.index-args-0.is c.index-args-1.is (c.in-Ok.ensures more) (c.in-Ok-value.ensures more))

pub returns-in-Err-value : goal.returns-in-Err-value
returns-in-Err-value c =
    let look : List ℕ → SymId → Option (List ℕ) → Option ℕ = λ g. look_up c.args.size c.args.rows.now g in
    let a : Assignment = slice_index c.args.values.now in
    let within : 1 < length c.args.args.now = omega (arith, c.if-args-ne2.false) in
    let here : slice_get c.args.args.now 1 ≡ Some c.index-args-1.result = slice_get_read c.args.args.now (length c.args.args.now) 1 c.index-args-1.result refl within c.index-args-1.is in
    sees_less (λ g. found_term (look g) a c.index-args-1.result) (λ g. option_map are_equal (found_terms (look g) a c.args.args.now)) c.args.given.now c.value-in-Ok.result c.in-Err-value.cell c.value-in-Ok.ensures c.in-Err-value.is
    (λ g none. ap (option_map are_equal) (terms_none (look g) a c.args.args.now 1 c.index-args-1.result here none))

pub returns-in-Err : goal.returns-in-Err
returns-in-Err c =
    let look : List ℕ → SymId → Option (List ℕ) → Option ℕ = λ g. look_up c.args.size c.args.rows.now g in
    let a : Assignment = slice_index c.args.values.now in
    let within : 0 < length c.args.args.now = omega (arith, c.if-args-ne2.false) in
    let here : slice_get c.args.args.now 0 ≡ Some c.index-args-0.result = slice_get_read c.args.args.now (length c.args.args.now) 0 c.index-args-0.result refl within c.index-args-0.is in
    sees_less (λ g. found_term (look g) a c.index-args-0.result) (λ g. option_map are_equal (found_terms (look g) a c.args.args.now)) c.args.given.now c.value.result c.in-Err.cell c.value.ensures c.in-Err.is
    (λ g none. ap (option_map are_equal) (terms_none (look g) a c.args.args.now 0 c.index-args-0.result here none))
