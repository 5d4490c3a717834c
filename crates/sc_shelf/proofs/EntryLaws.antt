-- What appending does to the entries of a shelf, and what a front of them is.
use Rattle.std.proofs.Common.{append-nil, get_or, drop-cons, ◌<◌, ◌≤◌, ◌≡◌, ℕ, List, [], ◌∷◌, ◌++◌, refl, ap, sym, ◌∙◌, append_assoc, true, false, subst, arith}
use Rattle.std.specs.Prelude.{◌+◌, ◌^◌, All, length, take, drop, zero, suc}
use Rattle.std.proofs.Math.Seq.{take-length}
use Rattle.std.proofs.lemmas.Grind.{common_steps}
use Rattle.std.proofs.lemmas.List.{take-append-drop, length-append}
use Rattle.std.proofs.lemmas.List.Elements.{All-append, All-take}
use Rattle.sc_term.specs.declared.symbol.Symbol.{Symbol}
use Rattle.sc_interp.specs.Versions.{ClaimedStructure}
use Rattle.sc_shelf.specs.declared.entry.Entry.{Entry}
use Rattle.sc_shelf.specs.declared.entry.Entry.TheVariants.{Published, Close}
use Rattle.sc_shelf.specs.Entries.{StartsWith, versions, has_close, closes_last, is_nothing, IsVersionOver, AreEntries}
use Rattle.sc_shelf.proofs.Fronts.{of_rest, to_rest}

pub versions_append : (xs ys : List Entry) → versions (xs ++ ys) ≡ versions xs ++ versions ys
versions_append [] ys = refl
versions_append (Published v ∷ xs) ys = ap (λ l. v ∷ l) (versions_append xs ys)
versions_append (Close ∷ xs) ys = versions_append xs ys

pub versions_more : (es : List Entry) (v : ClaimedStructure) → versions (es ++ Published v ∷ []) ≡ versions es ++ v ∷ []
versions_more es v = versions_append es (Published v ∷ [])

pub versions_closed : (es : List Entry) → versions (es ++ Close ∷ []) ≡ versions es
versions_closed es = versions_append es (Close ∷ []) ∙ append-nil (versions es)

pub count_one_more : (es : List Entry) (v : ClaimedStructure) → length (versions (es ++ Published v ∷ [])) ≡ length (versions es) + 1
count_one_more es v = ap length (versions_more es v) ∙ length-append (versions es) (v ∷ [])

pub versions_start : (xs ys : List Entry) → StartsWith xs ys → StartsWith (versions xs) (versions ys)
versions_start xs ys a =
    let c = drop (length ys) xs in
    of_rest (versions xs) (versions ys) (versions c) (ap versions (to_rest xs ys a) ∙ versions_append ys c)

pub still_open : (es : List Entry) (v : ClaimedStructure) → has_close es ≡ false → has_close (es ++ Published v ∷ []) ≡ false
still_open [] v o = refl
still_open (Published u ∷ es) v o = still_open es v o
still_open (Close ∷ es) v o = o

pub closed_by : (es : List Entry) → has_close (es ++ Close ∷ []) ≡ true
closed_by [] = refl
closed_by (Published u ∷ es) = closed_by es
closed_by (Close ∷ es) = refl

-- ---- what every shelf keeps

-- behind entries without Close an entry may stand
publish_last : (xs : List Entry) (v : ClaimedStructure) → closes_last xs ≡ true → has_close xs ≡ false → closes_last (xs ++ Published v ∷ []) ≡ true
publish_last [] v o c = refl
publish_last (Published u ∷ xs) v o c = publish_last xs v o c
publish_last (Close ∷ xs) v o c = grind (arith, c)

close_last : (xs : List Entry) → closes_last xs ≡ true → has_close xs ≡ false → closes_last (xs ++ Close ∷ []) ≡ true
close_last [] o c = refl
close_last (Published u ∷ xs) o c = close_last xs o c
close_last (Close ∷ xs) o c = grind (arith, c)

pub no_entries : (symbols : List Symbol) → AreEntries symbols []
no_entries symbols = record { last = refl; each = λ k d low. absurd (omega (arith, low)); few = omega arith }

one_over : (symbols : List Symbol) (v : ClaimedStructure) → IsVersionOver symbols v → All (IsVersionOver symbols) (v ∷ [])
one_over symbols v fits zero d low = fits
one_over symbols v fits (suc k) d low = absurd (omega (arith, low))

pub publish_entries : (symbols : List Symbol) (es : List Entry) (v : ClaimedStructure) → AreEntries symbols es → has_close es ≡ false → IsVersionOver symbols v → length (versions es) < 2 ^ 31
    → AreEntries symbols (es ++ Published v ∷ [])
publish_entries symbols es v kept open_still fits room = record {
  last = publish_last es v kept.last open_still;
  each = subst (All (IsVersionOver symbols)) (sym (versions_more es v)) (All-append (IsVersionOver symbols) (versions es) (v ∷ []) kept.each (one_over symbols v fits));
  few = omega (arith, count_one_more es v);
}

pub close_entries : (symbols : List Symbol) (es : List Entry) → AreEntries symbols es → has_close es ≡ false → AreEntries symbols (es ++ Close ∷ [])
close_entries symbols es kept open_still = record {
  last = close_last es kept.last open_still;
  each = subst (All (IsVersionOver symbols)) (sym (versions_closed es)) kept.each;
  few = subst (λ (l : List ClaimedStructure). length l ≤ 2 ^ 31) (sym (versions_closed es)) kept.few;
}

nothing_more : (xs : List Entry) → is_nothing xs ≡ true → xs ≡ []
nothing_more [] e = refl
nothing_more (x ∷ xs) e = grind arith

front_nothing : (xs rest : List Entry) → is_nothing (xs ++ rest) ≡ true → xs ++ rest ≡ xs
front_nothing [] rest e = nothing_more rest e
front_nothing (x ∷ xs) rest e = grind (arith, e)

-- behind Close nothing stands
closed_is_last : (xs rest : List Entry) → closes_last (xs ++ rest) ≡ true → has_close xs ≡ true → xs ++ rest ≡ xs
closed_is_last [] rest o c = grind (arith, c)
closed_is_last (Published u ∷ xs) rest o c = ap (λ l. Published u ∷ l) (closed_is_last xs rest o c)
closed_is_last (Close ∷ xs) rest o c = ap (λ l. Close ∷ l) (front_nothing xs rest o)

-- entries of a shelf that begin with closed ones are these
pub closed_is_final : (symbols : List Symbol) (es later : List Entry) → AreEntries symbols later → StartsWith later es → has_close es ≡ true → later ≡ es
closed_is_final symbols es later kept front closed =
    let e = to_rest later es front in
    e ∙ closed_is_last es (drop (length es) later) (subst (λ l. closes_last l ≡ true) e kept.last) closed

-- the versions seen, a front of those of a shelf, keep what these keep
pub front_over : (symbols : List Symbol) (es : List Entry) (seen : List ClaimedStructure) → AreEntries symbols es → StartsWith (versions es) seen → All (IsVersionOver symbols) seen
front_over symbols es seen kept front = subst (All (IsVersionOver symbols)) front (All-take (IsVersionOver symbols) (length seen) (versions es) kept.each)

pub front_few : (symbols : List Symbol) (es : List Entry) (seen : List ClaimedStructure) → AreEntries symbols es → StartsWith (versions es) seen → length seen ≤ 2 ^ 31
front_few symbols es seen kept front = omega (arith, kept.few, ap length (to_rest (versions es) seen front), length-append seen (drop (length seen) (versions es)))

-- ---- copying what wasn't seen

-- the first so many entries are the versions seen
pub front_seen : (es : List Entry) (seen : List ClaimedStructure) → closes_last es ≡ true → StartsWith (versions es) seen → versions (take (length seen) es) ≡ seen
front_seen es [] o b = refl
front_seen [] (u ∷ us) o b = b
front_seen (Published v ∷ es) (u ∷ us) o b =
    let same : v ≡ u = ap (λ (l : List ClaimedStructure). get_or l 0 v) b in
    let more : take (length us) (versions es) ≡ us = ap (λ (l : List ClaimedStructure). drop 1 l) b in
    λ k. same k ∷ front_seen es us o more k
front_seen (Close ∷ es) (u ∷ us) o b = grind (arith, nothing_more es o, b)

pub caught : (es : List Entry) (n : ℕ) (seen : List ClaimedStructure) → versions (take n es) ≡ seen → seen ++ versions (drop n es) ≡ versions es
caught es n seen e = ap (λ l. l ++ versions (drop n es)) (sym e) ∙ sym (versions_append (take n es) (drop n es)) ∙ ap versions (take-append-drop n es)

take_one_more : {X : Type 0} (es : List X) (k : ℕ) (e : X) → k < length es → e ≡ get_or es k e → take (k + 1) es ≡ take k es ++ e ∷ []
take_one_more es k e low at_k = grind (arith, common_steps, take-append-drop k es, drop-cons)

-- a loop over the entries has one more behind it
pub one_more : (seen : List ClaimedStructure) (es : List Entry) (k : ℕ) (e : Entry) → k < length es → e ≡ get_or es k e → (seen ++ versions (take k es)) ++ versions (e ∷ []) ≡ seen ++ versions (take (k + 1) es)
one_more seen es k e low at_k =
    append_assoc seen (versions (take k es)) (versions (e ∷ [])) ∙ ap (λ l. seen ++ l) (sym (versions_append (take k es) (e ∷ [])) ∙ ap versions (sym (take_one_more es k e low at_k)))

pub part_starts : (seen : List ClaimedStructure) (es : List Entry) (k : ℕ) → StartsWith (seen ++ versions es) (seen ++ versions (take k es))
part_starts seen es k = of_rest (seen ++ versions es) (seen ++ versions (take k es)) (versions (drop k es))
    (ap (λ l. seen ++ l) (ap versions (sym (take-append-drop k es)) ∙ versions_append (take k es) (drop k es)) ∙ sym (append_assoc seen (versions (take k es)) (versions (drop k es))))

-- ---- comparing

-- one more pair of a comparison
pub pair_more : (es : List Entry) (seen : List ClaimedStructure) (k : ℕ) (e : Entry) (v : ClaimedStructure) → k < length es → k < length seen → e ≡ get_or es k e → v ≡ get_or seen k v
    → versions (take k es) ≡ take k seen → versions (e ∷ []) ≡ v ∷ [] → versions (take (k + 1) es) ≡ take (k + 1) seen
pair_more es seen k e v le lv ate atv so same =
    ap versions (take_one_more es k e le ate) ∙ versions_append (take k es) (e ∷ []) ∙ ap (λ l. l ++ versions (e ∷ [])) so ∙ ap (λ l. take k seen ++ l) same ∙ sym (take_one_more seen k v lv atv)

pub starts_all : (es : List Entry) (seen : List ClaimedStructure) (k : ℕ) → k ≡ length seen → versions (take k es) ≡ take k seen → StartsWith (versions es) seen
starts_all es seen k end so = of_rest (versions es) seen (versions (drop k es)) (sym (caught es k seen (so ∙ ap (λ n. take n seen) end ∙ take-length seen)))
