-- The clauses of the lists among items.
use Rattle.std.proofs.Common.{◌≡◌, ◌∙◌, sym, ap, refl, ℕ, zero, suc, ◌+◌, ◌<◌, List, [], ◌∷◌, ◌++◌, map, flat_map, length, get_or, take, arith, subst}
use Rattle.std.specs.List.{AllByRecursion}
use Rattle.std.proofs.lemmas.List.{append-nil, map-append, take_more}
use Rattle.std.proofs.lemmas.Grind.{flat_map-append}
use Rattle.sc_term.specs.declared.Clause.{Clause}
use Rattle.sc_term.proofs.SubstitutionLaws.{all_split}
use Rattle.sc_term.specs.declared.symbol.Symbol.{Symbol}
use Rattle.sc_input_rules.specs.declared.settings.Home.{Home}
use Rattle.sc_input_rules.specs.declared.settings.Flags.{Flags}
use Rattle.sc_input_rules.specs.declared.settings.Params.{Params}
use Rattle.sc_input_rules.specs.Syntax.{WrittenClause}
use Rattle.sc_input_rules.specs.Numbering.{symbols_of, clause_of}
use Rattle.sc_input_rules.specs.Problem.{Stated, home_of, listed, listed_clauses, flags_of, params_of, stated}
use Rattle.sc_input_rules.specs.WellFormed.{IsInput, IsProblem}
use Rattle.sc_input_grammar.specs.declared.item.Item.{Item}
use Rattle.sc_input_grammar.specs.declared.item.Item.TheVariants.{Setting, Assignment, Listing}
use Rattle.sc_input_grammar.specs.Items.{item_of, items_of}
use Rattle.sc_input_values.specs.Listed.{clauses_in, homes_in}
use Rattle.sc_input_values.specs.Names.{clause_symbols, HasFewVariables}
use Rattle.sc_input_values.proofs.WeightLaws.{few_variables}

abbrev pub item_symbols : Item → List Symbol
item_symbols x = flat_map clause_symbols (clauses_in x)

pub flat_twice : {A B C : Type 0} (g : B → List C) (f : A → List B) (xs : List A) → flat_map g (flat_map f xs) ≡ flat_map (λ x. flat_map g (f x)) xs
flat_twice g f [] = refl
flat_twice g f (x ∷ xs) = flat_map-append g (f x) (flat_map f xs) ∙ ap (λ l. flat_map g (f x) ++ l) (flat_twice g f xs)

paired : {A B : Type 0} (a : A) (bs : List B) → (map (λ (p : A × B). p.1) (map (λ b. (a, b)) bs) ≡ bs) × (map (λ (p : A × B). p.0) (map (λ b. (a, b)) bs) ≡ map (λ b. a) bs)
paired a [] = (refl, refl)
paired a (b ∷ bs) = let rest = paired a bs in (ap (λ l. b ∷ l) rest.0, ap (λ l. a ∷ l) rest.1)

of_item : (x : Item) → (map (λ (p : Home × WrittenClause). p.1) (listed (item_of x)) ≡ clauses_in x) × (map (λ (p : Home × WrittenClause). p.0) (listed (item_of x)) ≡ homes_in x)
of_item (Setting n positive) = (refl, refl)
of_item (Assignment n value) = (refl, refl)
of_item (Listing n clauses) = paired (home_of n.text) clauses

pub of_items : (xs : List Item) → (map (λ (p : Home × WrittenClause). p.1) (listed_clauses (items_of xs)) ≡ flat_map clauses_in xs)
    × (map (λ (p : Home × WrittenClause). p.0) (listed_clauses (items_of xs)) ≡ flat_map homes_in xs)
of_items [] = (refl, refl)
of_items (x ∷ xs) =
    let rest = of_items xs in
    let one = of_item x in (
      map-append (λ (p : Home × WrittenClause). p.1) (listed (item_of x)) (listed_clauses (items_of xs)) ∙ (λ j. one.0 j ++ rest.0 j),
      map-append (λ (p : Home × WrittenClause). p.0) (listed (item_of x)) (listed_clauses (items_of xs)) ∙ (λ j. one.1 j ++ rest.1 j),
    )

pub inputs_after : (symbols : List Symbol) (ps : List (Home × WrittenClause)) → map (λ (p : Home × WrittenClause). clause_of symbols p.1) ps ≡ map (clause_of symbols) (map (λ (p : Home × WrittenClause). p.1) ps)
inputs_after symbols [] = refl
inputs_after symbols (p ∷ ps) = ap (λ l. clause_of symbols p.1 ∷ l) (inputs_after symbols ps)

pub few_in_each : (symbols : List Symbol) (cs : List WrittenClause) → AllByRecursion (IsInput symbols) (map (clause_of symbols) cs) → AllByRecursion HasFewVariables cs
few_in_each symbols [] h = tt
few_in_each symbols (c ∷ cs) h = (few_variables symbols c h.0.light, few_in_each symbols cs h.1)

-- what holds of all that a list of items gives holds of what one of them gives
pub all_at : {A B : Type 0} (P : B → Type 0) (g : A → List B) (xs : List A) (i : ℕ) (x : A) → AllByRecursion P (flat_map g xs) → i < length xs → x ≡ get_or xs i x → AllByRecursion P (g x)
all_at P g [] i x h within item = absurd (omega arith)
all_at P g (y ∷ ys) zero x h within item = subst (λ z. AllByRecursion P (g z)) (sym item) (all_split P (g y) (flat_map g ys) h).0
all_at P g (y ∷ ys) (suc i) x h within item = all_at P g ys i x (all_split P (g y) (flat_map g ys) h).1 (omega arith) item

-- one more, where so far there is what the first i of xs give
pub flat_more : {A B : Type 0} (g : A → List B) (xs : List A) (i : ℕ) (x : A) → i < length xs → x ≡ get_or xs i x → flat_map g (take (i + 1) xs) ≡ flat_map g (take i xs) ++ g x
flat_more g xs i x within item =
    ap (flat_map g) (take_more xs i x within ∙ ap (λ y. take i xs ++ y ∷ []) (sym item)) ∙ flat_map-append g (take i xs) (x ∷ []) ∙ ap (λ l. flat_map g (take i xs) ++ l) (append-nil (g x))

-- ---- the problem that items state

abbrev pub clauses_of : List Item → List WrittenClause
clauses_of items = flat_map clauses_in items

pub symbols_as : (items : List Item) → (stated (items_of items)).symbols ≡ symbols_of (clauses_of items)
symbols_as items = ap symbols_of (of_items items).0

pub inputs_as : (items : List Item) → (stated (items_of items)).inputs ≡ map (clause_of (symbols_of (clauses_of items))) (clauses_of items)
inputs_as items =
    inputs_after (stated (items_of items)).symbols (listed_clauses (items_of items)) ∙ ap (map (clause_of (stated (items_of items)).symbols)) (of_items items).0
    ∙ ap (λ ss. map (clause_of ss) (clauses_of items)) (symbols_as items)

abbrev pub the_problem : List Symbol → List Clause → List Home → Flags → Params → Stated
the_problem symbols inputs homes flags params = record { symbols = symbols; inputs = inputs; homes = homes; flags = flags; params = params }

-- what has these parts is what the items state
pub as_stated : (items : List Item) (symbols : List Symbol) (inputs : List Clause) (homes : List Home) (flags : Flags) (params : Params)
    → symbols ≡ symbols_of (clauses_of items) → inputs ≡ map (clause_of symbols) (clauses_of items) → homes ≡ flat_map homes_in items → flags ≡ flags_of (items_of items)
    → params ≡ params_of (items_of items) → the_problem symbols inputs homes flags params ≡ stated (items_of items)
as_stated items symbols inputs homes flags params s i h f p =
    let symbols_are = s ∙ sym (symbols_as items) in
    let inputs_are = i ∙ ap (λ ss. map (clause_of ss) (clauses_of items)) s ∙ sym (inputs_as items) in
    let homes_are = h ∙ sym (of_items items).1 in
    (λ j. record { symbols = symbols_are j; inputs = inputs_are j; homes = homes_are j; flags = f j; params = p j })

pub few_in_items : (items : List Item) → IsProblem (stated (items_of items)) → AllByRecursion HasFewVariables (clauses_of items)
few_in_items items is =
    let symbols = symbols_of (clauses_of items) in
    few_in_each symbols (clauses_of items) (subst (λ cs. AllByRecursion (IsInput symbols) cs) (inputs_as items) (subst (λ ss. AllByRecursion (IsInput ss) (stated (items_of items)).inputs) (symbols_as items) is.inputs))
