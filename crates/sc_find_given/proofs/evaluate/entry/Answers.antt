use Rattle.std.proofs.Common.{◌≡◌, ◌∙◌, sym, ℕ, ◌-◌, ◌^◌, ◌++◌, length, List, Option, Some, None, min, slice_index}
use Rattle.std.specs.Option.{option_map}
use Rattle.sc_term.specs.declared.SymId.{SymId}
use Rattle.sc_term.specs.Interpretation.{Assignment}
use Rattle.sc_term.specs.Numbering.{numbered}
use Rattle.sc_find_given.specs.Lookup.{place_in, number_in, value_at, look_up, found_terms, found_atom}
use Rattle.sc_find_given.proofs.LookupLaws.{value_found, terms_many, atom_is}
use Rattle.sc_find_given.proofs.WaitingLaws.{sees_found, sees_less}
use Rattle.sc_find_given.proofs.evaluate.entry.Goals as goal

pub returns-in-Ok-found : goal.returns-in-Ok-found
returns-in-Ok-found c =
    let look : List ℕ → SymId → Option (List ℕ) → Option ℕ = λ g. look_up c.args.size c.args.rows.now g in
    let a : Assignment = slice_index c.args.values.now in
    let given : List ℕ = c.args.given.now in
    let p : List ℕ → Option ℕ = λ g. place_in c.args.size (found_terms (look g) a c.args.args.now) in
    let here = sees_found (λ g. option_map (λ n. min n (2 ^ 64 - 1)) (p g)) given c.place.result c.in-Ok.place c.place.ensures c.in-Ok.is in
    let value = sees_found (λ g. value_at g (number_in (numbered c.args.rows.now c.args.pred.0) (length c.args.args.now) (p g))) given c.found.result c.in-Ok-found.entry
    (c.found.ensures p (λ more. sym (here more))) c.in-Ok-found.is in
    λ more. sym (atom_is (look (given ++ more)) a c.args.pred (found_terms (look (given ++ more)) a c.args.args.now) (Some c.in-Ok-found.entry) c.requires
    (sym (value_found c.args.size c.args.rows.now (given ++ more) c.args.pred (length c.args.args.now) (found_terms (look (given ++ more)) a c.args.args.now) (terms_many (look (given ++ more)) a c.args.args.now)) ∙ value more))

pub returns-in-Err-found : goal.returns-in-Err-found
returns-in-Err-found c =
    let look : List ℕ → SymId → Option (List ℕ) → Option ℕ = λ g. look_up c.args.size c.args.rows.now g in
    let a : Assignment = slice_index c.args.values.now in
    let given : List ℕ = c.args.given.now in
    let p : List ℕ → Option ℕ = λ g. place_in c.args.size (found_terms (look g) a c.args.args.now) in
    let here = sees_found (λ g. option_map (λ n. min n (2 ^ 64 - 1)) (p g)) given c.place.result c.in-Ok.place c.place.ensures c.in-Ok.is in
    sees_less (λ g. value_at g (number_in (numbered c.args.rows.now c.args.pred.0) (length c.args.args.now) (p g))) (λ g. found_atom (look g) c.args.pred (found_terms (look g) a c.args.args.now))
    given c.found.result c.in-Err-found.cell (c.found.ensures p (λ more. sym (here more))) c.in-Err-found.is
    (λ g none. sym (atom_is (look g) a c.args.pred (found_terms (look g) a c.args.args.now) None c.requires
    (sym (value_found c.args.size c.args.rows.now g c.args.pred (length c.args.args.now) (found_terms (look g) a c.args.args.now) (terms_many (look g) a c.args.args.now)) ∙ none)))
