-- Each step on a shelf keeps its rule.
use Rattle.std.proofs.Common.{◌≡◌, ℕ, ◌≢◌, List, [], ◌∷◌, ◌++◌, set, refl, ap, append_assoc, sym, ◌∙◌, subst, ⊎_elim, rules}
use Rattle.std.specs.Prelude.{Option, Some, None, IfSome}
use Rattle.core.specs.List.{fold}
use mathlib.Core.Option.{some}
use lib.ListN.{get_elem?}
use Rattle.left_right.specs.Register.{Admits, TurnsAt, Forks, Merges}
use Rattle.atomic_table.proofs.Lists.{at_set, at_snoc}
use Rattle.sc_term.specs.declared.symbol.Symbol.{Symbol}
use Rattle.sc_shelf.specs.declared.store.Store.{Store}
use Rattle.sc_shelf.specs.declared.entry.Entry.{Entry}
use Rattle.sc_shelf.specs.declared.view.View.{View}
use Rattle.sc_shelf.specs.Entries.{StartsWith, AreEntries}
use Rattle.sc_shelf.specs.Rule.{Knows, IsShelved, Sees, newcomer, sight}
use Rattle.sc_shelf.proofs.Fronts.{starts_itself, starts_trans, of_rest}

-- a store is its three parts
pub same_stores : (x y : Store) → x.alloc ≡ y.alloc → x.signature.value ≡ y.signature.value → x.entries ≡ y.entries → x ≡ y
same_stores x y a s e = λ j. record { alloc = a j; signature = record { marker = x.signature.marker; value = s j }; entries = e j }

-- ---- what is known

knows_newcomer : (x : Store) → Knows x newcomer
knows_newcomer x = record { met = refl; named = search rules }

knows_sight : (x : Store) → Knows x (sight x)
knows_sight x = record { met = starts_itself x.entries; named = refl }

same_named : (x y : Store) (o : Option (List Symbol)) → y.signature.value ≡ x.signature.value → IfSome o (λ symbols. symbols ≡ x.signature.value) → IfSome o (λ symbols. symbols ≡ y.signature.value)
same_named x y None same n = search rules
same_named x y (Some symbols) same n = n ∙ sym same

grows_knows : (x y : Store) (v : View) → StartsWith y.entries x.entries → y.signature.value ≡ x.signature.value → Knows x v → Knows y v
grows_knows x y v up same k = record { met = starts_trans y.entries x.entries v.met up k.met; named = same_named x y v.symbols same k.named }

-- ---- the rule, with another view or one more

set_kept : (x : Store) (views : List View) (seat : ℕ) (w : View) → IsShelved x views → Knows x w → IsShelved x (set views seat w)
set_kept x views seat w h k = record {
  entries = h.entries;
  each = λ j u e. ⊎_elim (λ (t : (j ≡ seat) × (w ≡ u)). subst (λ z. Knows x z) t.1 k) (λ (t : (j ≢ seat) × (get_elem? views j ≡ some u)). h.each j u t.1) (at_set views seat j w u e);
}

snoc_kept : (x : Store) (views : List View) (w : View) → IsShelved x views → Knows x w → IsShelved x (views ++ w ∷ [])
snoc_kept x views w h k = record { entries = h.entries; each = λ j u e. ⊎_elim (h.each j u) (λ (t : w ≡ u). subst (λ z. Knows x z) t k) (at_snoc views w u j e) }

-- ---- the steps

-- a shelf that is opened
pub opens : (x : Store) → AreEntries x.signature.value x.entries → IsShelved x (newcomer ∷ [])
opens x kept = snoc_kept x [] newcomer (record { entries = kept; each = λ j u e. search (rules, e) }) (knows_newcomer x)

-- a new reader comes
pub admits : Admits IsShelved newcomer
admits x views h = snoc_kept x views newcomer h (knows_newcomer x)

-- the entries grow
pub grows : (seat : ℕ) (v : View) (x y : Store) → StartsWith y.entries x.entries → y.signature.value ≡ x.signature.value → (AreEntries x.signature.value x.entries → AreEntries y.signature.value y.entries) → TurnsAt IsShelved seat v x y Sees
grows seat v x y up same keeps views h at_seat = (
  sight y,
  set_kept y views seat (sight y) (record { entries = keeps h.entries; each = λ j u e. grows_knows x y u up same (h.each j u e) }) (knows_sight y),
  record { now = refl; before = grows_knows x y v up same (h.each seat v at_seat); entries = keeps h.entries },
)

-- a reader enters
pub stays : (seat : ℕ) (v : View) (x : Store) → TurnsAt IsShelved seat v x x Sees
stays seat v x = grows seat v x x (starts_itself x.entries) refl (λ kept. kept)

-- a press tells
pub forks : (seat : ℕ) (v : View) → Forks IsShelved seat v v v
forks seat v x views h at_seat = snoc_kept x (set views seat v) v (set_kept x views seat v h (h.each seat v at_seat)) (h.each seat v at_seat)

-- a new reader learns
pub merges : (seat : ℕ) (v : View) (other : ℕ) (w : View) → Merges IsShelved seat v other w w newcomer
merges seat v other w x views h at_seat apart there =
    let k : Knows x w = ⊎_elim (λ (t : (other ≡ seat) × (w ≡ w)). absurd (apart t.0)) (λ (t : (other ≢ seat) × (get_elem? views other ≡ some w)). h.each other w t.1) (at_set views seat other w w there) in
    set_kept x (set views seat w) other newcomer (set_kept x views seat w h k) (knows_newcomer x)

-- ---- publishing

pub fold_adds : (s : Store) (l : List Entry) → fold (λ (x : Store) (e : Entry). record x { entries = x.entries ++ e ∷ [] }) s l ≡ record s { entries = s.entries ++ l }
fold_adds s [] = ap (λ (es : List Entry). record s { entries = es }) (search rules)
fold_adds s (e ∷ l) = fold_adds (record s { entries = s.entries ++ e ∷ [] }) l ∙ ap (λ (es : List Entry). record s { entries = es }) (append_assoc s.entries (e ∷ []) l)

-- the store with more entries
pub appends : (seat : ℕ) (v : View) (now next : Store) (more : List Entry) → next ≡ record now { entries = now.entries ++ more } → AreEntries now.signature.value (now.entries ++ more) → TurnsAt IsShelved seat v now next Sees
appends seat v now next more is fits = grows seat v now next
    (of_rest next.entries now.entries more (ap (λ (s : Store). s.entries) is))
    (ap (λ (s : Store). s.signature.value) is)
    (λ _. subst (λ (s : Store). AreEntries s.signature.value s.entries) (sym is) fits)
