-- The last item of a name holds.
use Rattle.std.proofs.Common.{◌≡◌, ◌∙◌, sym, ap, refl, ℕ, ◌+◌, ◌<◌, Bool, List, [], ◌∷◌, ◌++◌, length, get_or, take, if◌then◌else◌, nat_abs}
use Rattle.std.proofs.lemmas.List.{take_more, map-append}
use Rattle.sc_input_rules.specs.Token.{same_text}
use Rattle.sc_input_rules.specs.ProblemGrammar.{Item, Setting, Assignment, Listing}
use Rattle.sc_input_rules.specs.Problem.{last_setting, last_value}
use Rattle.sc_input_grammar.specs.declared.item.Item.{Item as Told}
use Rattle.sc_input_grammar.specs.Items.{item_of, items_of}

last_setting-append : (name : List ℕ) (b : Bool) (xs ys : List Item) → last_setting name b (xs ++ ys) ≡ last_setting name (last_setting name b xs) ys
last_setting-append name b [] ys = refl
last_setting-append name b (Setting n positive ∷ xs) ys = last_setting-append name (if same_text name n.text then positive else b) xs ys
last_setting-append name b (Assignment n value ∷ xs) ys = last_setting-append name b xs ys
last_setting-append name b (Listing n clauses ∷ xs) ys = last_setting-append name b xs ys

last_value-append : (name : List ℕ) (k : ℕ) (xs ys : List Item) → last_value name k (xs ++ ys) ≡ last_value name (last_value name k xs) ys
last_value-append name k [] ys = refl
last_value-append name k (Setting n positive ∷ xs) ys = last_value-append name k xs ys
last_value-append name k (Assignment n value ∷ xs) ys = last_value-append name (if same_text name n.text then nat_abs value else k) xs ys
last_value-append name k (Listing n clauses ∷ xs) ys = last_value-append name k xs ys

one_more : (all : List Told) (i : ℕ) (x : Told) → i < length all → x ≡ get_or all i x → items_of (take (i + 1) all) ≡ items_of (take i all) ++ item_of x ∷ []
one_more all i x within item =
    ap items_of (take_more all i x within ∙ ap (λ y. take i all ++ y ∷ []) (sym item)) ∙ map-append item_of (take i all) (x ∷ [])

pub setting_turn : (name : List ℕ) (b : Bool) (all : List Told) (i : ℕ) (x : Told) → i < length all → x ≡ get_or all i x
    → last_setting name b (items_of (take (i + 1) all)) ≡ last_setting name (last_setting name b (items_of (take i all))) (item_of x ∷ [])
setting_turn name b all i x within item = ap (last_setting name b) (one_more all i x within item) ∙ last_setting-append name b (items_of (take i all)) (item_of x ∷ [])

pub value_turn : (name : List ℕ) (k : ℕ) (all : List Told) (i : ℕ) (x : Told) → i < length all → x ≡ get_or all i x
    → last_value name k (items_of (take (i + 1) all)) ≡ last_value name (last_value name k (items_of (take i all))) (item_of x ∷ [])
value_turn name k all i x within item = ap (last_value name k) (one_more all i x within item) ∙ last_value-append name k (items_of (take i all)) (item_of x ∷ [])
