-- Texts in a row, one more at the end.
use Rattle.std.proofs.Common.{◌≡◌, ◌∙◌, sym, ap, refl, ℕ, suc, ◌+◌, ◌<◌, List, [], ◌∷◌, ◌++◌, map, take, length, get_or, append_assoc, add-one, arith}
use Rattle.std.specs.Prelude.{codes, decimal, flat_map, slice_get}
use Rattle.std.proofs.lemmas.List.{take_more, append-nil, map-append, length-map, length-take, flat_map_more}
use Rattle.std.proofs.lemmas.Option.{slice_get_past}
use Rattle.sc_term.specs.declared.symbol.Symbol.{Symbol}
use Rattle.sc_interp.specs.declared.table.Table.{Table}
use Rattle.sc_text_rules.specs.ProofText.{words}
use Rattle.sc_text_print.proofs.LineText.{joined_by-append}
use Rattle.sc_text_run_rules.specs.declared.run.FinderEnd.{FinderEnd}
use Rattle.sc_text_run_rules.specs.declared.run.VersionText.{VersionText}
use Rattle.sc_text_run_rules.specs.ModelText.{row, table_row, table_rows, without_equality}
use Rattle.sc_text_run_rules.specs.RunText.{end_word, version_rows, list_rows, lists_rows, finder_rows}
use Rattle.sc_text_run_rules.specs.RunValue.{VersionValue, version_value}
use Rattle.sc_text_print.specs.TableAt.{row_of}

-- the first i + 1 elements
more : {X : Type 0} (xs : List X) (i : ℕ) (d x : X) → i < length xs → x ≡ get_or xs i d → take (i + 1) xs ≡ take i xs ++ x ∷ []
more xs i d x lt is = rw is (take_more xs i d lt)

-- and their images
more_mapped : {X Y : Type 0} (f : X → Y) (xs : List X) (i : ℕ) (d x : X) → i < length xs → x ≡ get_or xs i d → map f (take (i + 1) xs) ≡ map f (take i xs) ++ f x ∷ []
more_mapped f xs i d x lt is = rw (more xs i d x lt is) (map-append f (take i xs) (x ∷ []))

many : {X Y : Type 0} (f : X → Y) (xs : List X) (i : ℕ) → i < length xs → length (map f (take i xs)) ≡ i
many {X} f xs i lt = length-map (take i xs) f ∙ omega (arith, length-take {A = X})

pub number_more : (first xs : List ℕ) (i d x : ℕ) → i < length xs → x ≡ get_or xs i d
    → words (first ∷ map decimal (take i xs)) ++ (codes " " ++ decimal x) ≡ words (first ∷ map decimal (take (i + 1) xs))
number_more first xs i d x lt is =
    rw (more_mapped decimal xs i d x lt is) (sym (joined_by-append (codes " ") first (map decimal (take i xs)) (decimal x) []))

pub row_more : {X : Type 0} (f : X → List ℕ) (xs : List X) (i : ℕ) (d x : X) → i < length xs → x ≡ get_or xs i d
    → flat_map f (take i xs) ++ f x ≡ flat_map f (take (i + 1) xs)
row_more f xs i d x lt is = rw (more xs i d x lt is) (flat_map_more f [] (take i xs) x)

-- ---- tables

pub no_table : (symbols : List Symbol) → table_rows symbols [] ≡ []
no_table [] = refl
no_table (s ∷ symbols) = refl

table_rows-snoc : (symbols : List Symbol) (es : List (List ℕ)) (e : List ℕ) → table_rows symbols es ++ row_of (slice_get symbols (length es)) e ≡ table_rows symbols (es ++ e ∷ [])
table_rows-snoc [] es e = ap (λ o. row_of o e) (slice_get_past {X = Symbol} [] (length es) (omega arith))
table_rows-snoc (s ∷ symbols) [] e = rw (no_table symbols, append-nil) refl
table_rows-snoc (s ∷ symbols) (f ∷ es) e = rw append_assoc (ap (λ t. table_row s f ++ t) (table_rows-snoc symbols es e))

behind_equality : (symbols : List Symbol) (i : ℕ) → slice_get symbols (i + 1) ≡ slice_get (without_equality symbols) i
behind_equality [] i = slice_get_past {X = Symbol} [] (i + 1) (omega arith) ∙ sym (slice_get_past {X = Symbol} [] i (omega arith))
behind_equality (s ∷ symbols) i = rw add-one refl

pub table_more : (symbols : List Symbol) (tables : List Table) (i : ℕ) (d table : Table) → i < length tables → table ≡ get_or tables i d
    → table_rows (without_equality symbols) (map (λ (t : Table). t.entries) (take i tables)) ++ row_of (slice_get symbols (i + 1)) table.entries
    ≡ table_rows (without_equality symbols) (map (λ (t : Table). t.entries) (take (i + 1) tables))
table_more symbols tables i d table lt is =
    let e = table_rows-snoc (without_equality symbols) (map (λ (t : Table). t.entries) (take i tables)) table.entries in
    let m = more_mapped (λ (t : Table). t.entries) tables i d table lt is in
    let n = many (λ (t : Table). t.entries) tables i lt in
    let b = behind_equality symbols i in
    cc

-- ---- versions

list_rows-snoc : (symbols : List Symbol) (finder place : ℕ) (vs : List VersionValue) (v : VersionValue)
    → list_rows symbols finder place vs ++ version_rows symbols finder (length vs + place) v ≡ list_rows symbols finder place (vs ++ v ∷ [])
list_rows-snoc symbols finder place [] v = rw append-nil (ap (λ k. version_rows symbols finder k v) (omega arith))
list_rows-snoc symbols finder place (u ∷ vs) v =
    let e = list_rows-snoc symbols finder (place + 1) vs v in
    let m : length vs + (place + 1) ≡ suc (length vs) + place = omega arith in
    rw append_assoc (ap (λ s. version_rows symbols finder place u ++ s) (ap (λ k. list_rows symbols finder (place + 1) vs ++ version_rows symbols finder k v) (sym m) ∙ e))

pub version_more : (symbols : List Symbol) (finder : ℕ) (vs : List VersionText) (i : ℕ) (d v : VersionText) → i < length vs → v ≡ get_or vs i d
    → list_rows symbols finder 0 (map version_value (take i vs)) ++ version_rows symbols finder i (version_value v)
    ≡ list_rows symbols finder 0 (map version_value (take (i + 1) vs))
version_more symbols finder vs i d v lt is =
    let e = list_rows-snoc symbols finder 0 (map version_value (take i vs)) (version_value v) in
    let m = more_mapped version_value vs i d v lt is in
    let n : length (map version_value (take i vs)) + 0 ≡ i = omega (arith, many version_value vs i lt) in
    cc

lists_rows-snoc : (symbols : List Symbol) (finder : ℕ) (lists : List (List VersionValue)) (vs : List VersionValue)
    → lists_rows symbols finder lists ++ list_rows symbols (length lists + finder) 0 vs ≡ lists_rows symbols finder (lists ++ vs ∷ [])
lists_rows-snoc symbols finder [] vs = rw append-nil (ap (λ k. list_rows symbols k 0 vs) (omega arith))
lists_rows-snoc symbols finder (us ∷ lists) vs =
    let e = lists_rows-snoc symbols (finder + 1) lists vs in
    let m : length lists + (finder + 1) ≡ suc (length lists) + finder = omega arith in
    rw append_assoc (ap (λ s. list_rows symbols finder 0 us ++ s) (ap (λ k. lists_rows symbols (finder + 1) lists ++ list_rows symbols k 0 vs) (sym m) ∙ e))

pub list_more : (symbols : List Symbol) (lists : List (List VersionText)) (i : ℕ) (d vs : List VersionText) → i < length lists → vs ≡ get_or lists i d
    → lists_rows symbols 1 (map (map version_value) (take i lists)) ++ list_rows symbols (i + 1) 0 (map version_value vs)
    ≡ lists_rows symbols 1 (map (map version_value) (take (i + 1) lists))
list_more symbols lists i d vs lt is =
    let e = lists_rows-snoc symbols 1 (map (map version_value) (take i lists)) (map version_value vs) in
    let m = more_mapped (map version_value) lists i d vs lt is in
    let n = many (map version_value) lists i lt in
    cc

-- ---- finders

finder_rows-snoc : (finder : ℕ) (ends : List FinderEnd) (end : FinderEnd)
    → finder_rows finder ends ++ row (codes "finder" ∷ decimal (length ends + finder) ∷ end_word end ∷ []) ≡ finder_rows finder (ends ++ end ∷ [])
finder_rows-snoc finder [] end = rw append-nil (ap (λ k. row (codes "finder" ∷ decimal k ∷ end_word end ∷ [])) (omega arith))
finder_rows-snoc finder (first ∷ ends) end =
    let e = finder_rows-snoc (finder + 1) ends end in
    let m : length ends + (finder + 1) ≡ suc (length ends) + finder = omega arith in
    rw append_assoc (ap (λ s. row (codes "finder" ∷ decimal finder ∷ end_word first ∷ []) ++ s) (ap (λ k. finder_rows (finder + 1) ends ++ row (codes "finder" ∷ decimal k ∷ end_word end ∷ [])) (sym m) ∙ e))

pub end_more : (ends : List FinderEnd) (i : ℕ) (d end : FinderEnd) → i < length ends → end ≡ get_or ends i d
    → finder_rows 1 (take i ends) ++ row (codes "finder" ∷ decimal (i + 1) ∷ end_word end ∷ []) ≡ finder_rows 1 (take (i + 1) ends)
end_more ends i d end lt is =
    let e = finder_rows-snoc 1 (take i ends) end in
    let m = more ends i d end lt is in
    let n : length (take i ends) ≡ i = omega (arith, length-take {A = FinderEnd}) in
    cc
