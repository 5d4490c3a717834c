-- Literals that substitutions make equal have keys and a row that meet. A side whose flag isn't set stays as it is.
use Rattle.std.proofs.Common.{◌≡◌, ◌∙◌, sym, ap, subst, refl, ℕ, suc, ◌+◌, ◌&&◌, List, [], ◌∷◌, ◌++◌, append_assoc, map, length, drop, Bool, true, false, true≢false, arith}
use Rattle.std.specs.List.{AllByRecursion}
use Rattle.std.proofs.lemmas.List.{append-nil, length-map, drop_at}
use Rattle.sc_term.specs.declared.SymId.{SymId}
use Rattle.sc_term.specs.declared.Term.{Term, Var, out-Term}
use Rattle.sc_term.specs.declared.Term.TheVariants.{App}
use Rattle.sc_term.specs.declared.Term.TheOpen.{Term-F}
use Rattle.sc_term.specs.declared.Term.TheOpen as at
use Rattle.sc_term.specs.declared.Literal.{Literal}
use Rattle.sc_term.specs.Term.{joined, term_under}
use Rattle.sc_term.specs.Refuted.{Atom, atom_of}
use Rattle.sc_term.specs.Substitution.{Substitution, literal_under}
use Rattle.sc_term.proofs.TermLaws.{term_ind, out-Var, out-App, App-injective}
use Rattle.sc_term.proofs.TermSteps.{under-Var, under-App}
use Rattle.sc_index.specs.declared.flat.Key.{Key}
use Rattle.sc_index.specs.declared.flat.Key.TheVariants as key
use Rattle.sc_index.specs.declared.flat.Cell.{Cell}
use Rattle.sc_index.specs.Flat.{term_cells, literal_cells}
use Rattle.sc_index.specs.Meeting.{is_variable, By, Meets}
use Rattle.sc_index.specs.Nodes.{keys_of}
use Rattle.sc_index.proofs.FlatLaws.{cells-Var, cells-App, shape, keys_append}

by_no : (b : Bool) (A B : Type 0) → B → By (b && false) A B
by_no true A B h = h
by_no false A B h = h

by_yes : (b : Bool) (A B : Type 0) → b ≡ true → A → By (b && true) A B
by_yes true A B e h = h
by_yes false A B e h = absurd (true≢false (sym e))

differ : {X : Type 0} (n : ℕ) (f : SymId) (xs : List Term) → Var n ≡ App f xs → X
differ n f xs e = absurd (let level : at.Var n ≡ at.App f xs = sym (out-Var n) ∙ ap out-Term e ∙ out-App f xs in cc)

term_cases : (P : Term → Type 0) → ((n : ℕ) → P (Var n)) → ((f : SymId) (xs : List Term) → P (App f xs)) → (t : Term) → P t
term_cases P v a t = term_ind P v (λ f xs h. a f xs) t

abbrev row_of : List Term → List Cell
row_of xs = joined (map term_cells xs)

abbrev IsNought : ℕ → Type 0
IsNought n = n ≡ 0

abbrev named : SymId → List Term → Key
named f xs = key.Symbol f (length (map term_cells xs))

-- keys of x, then those of a row, as one list
keys_then : (x : Term) (xs : List Term) (ks : List Key) → keys_of (row_of (x ∷ xs)) ++ ks ≡ keys_of (term_cells x) ++ (keys_of (row_of xs) ++ ks)
keys_then x xs ks = ap (λ l. l ++ ks) (keys_append (term_cells x) (row_of xs)) ∙ append_assoc (keys_of (term_cells x)) (keys_of (row_of xs)) ks

module _ (stored asked : Bool) where
  -- ---- a term of the path is passed over

  abbrev IsPassedOver : Term → Type 0
  IsPassedOver x = (ks : List Key) (p : ℕ) (cs : List Cell) → Meets stored asked ks p cs → Meets stored asked (keys_of (term_cells x) ++ ks) (suc p) cs

  row_passed_over : (xs : List Term) → AllByRecursion IsPassedOver xs → (ks : List Key) (p : ℕ) (cs : List Cell) → Meets stored asked ks p cs
      → Meets stored asked (keys_of (row_of xs) ++ ks) (p + length xs) cs
  row_passed_over [] h ks p cs m = subst (λ n. Meets stored asked ks n cs) (let e : p ≡ p + 0 = omega arith in e) m
  row_passed_over (x ∷ xs) h ks p cs m =
      let rest = row_passed_over xs h.1 ks p cs m in
      let one = h.0 (keys_of (row_of xs) ++ ks) (p + length xs) cs rest in
      subst (λ l. Meets stored asked l (p + length (x ∷ xs)) cs) (sym (keys_then x xs ks))
      (subst (λ n. Meets stored asked (keys_of (term_cells x) ++ (keys_of (row_of xs) ++ ks)) n cs) (let e : suc (p + length xs) ≡ p + length (x ∷ xs) = omega arith in e) one)

  passed_over : (x : Term) → IsPassedOver x
  passed_over x = term_ind IsPassedOver at_variable at_symbol x
    where
      at_variable : (n : ℕ) → IsPassedOver (Var n)
      at_variable n ks p cs m = subst (λ row. Meets stored asked (keys_of row ++ ks) (suc p) cs) (sym (cells-Var n)) (p, cs, ((let e : p ≡ p + 0 = omega arith in e), refl), m)

      at_symbol : (f : SymId) (xs : List Term) → AllByRecursion IsPassedOver xs → IsPassedOver (App f xs)
      at_symbol f xs h ks p cs m = subst (λ row. Meets stored asked (keys_of row ++ ks) (suc p) cs) (sym (cells-App f xs))
          (p + length xs, cs, (ap (λ n. p + n) (sym (length-map xs term_cells)), refl), row_passed_over xs h ks p cs m)

  over_each : (xs : List Term) → AllByRecursion IsPassedOver xs
  over_each [] = tt
  over_each (x ∷ xs) = (passed_over x, over_each xs)

  -- ---- terms that are made equal

  module _ (s u : Substitution) (keeps : stored ≡ false → (n : ℕ) → s n ≡ Var n) (still : asked ≡ false → (n : ℕ) → u n ≡ Var n) where
    abbrev IsMet : Term → Type 0
    IsMet p = (x : Term) → term_under s p ≡ term_under u x → (ks : List Key) (cs : List Cell) → Meets stored asked ks 0 cs
        → Meets stored asked (keys_of (term_cells p) ++ ks) 0 (term_cells x ++ cs)

    -- a variable of the path
    takes : (n : ℕ) (x : Term) → s n ≡ term_under u x → (ks : List Key) (cs : List Cell) → Meets stored asked ks 0 cs → Meets stored asked (key.Variable ∷ ks) 0 (term_cells x ++ cs)
    takes n x e ks cs m = by stored refl
      where
        as_itself : (b : Bool) (c : Cell) → c.key ≡ key.Variable → By (b && is_variable c.key) (IsNought 0 × (cs ≡ cs)) ((c.key ≡ key.Variable) × IsNought 0 × (cs ≡ cs))
        as_itself true c is = subst (λ k. By (is_variable k) (IsNought 0 × (cs ≡ cs)) ((k ≡ key.Variable) × IsNought 0 × (cs ≡ cs))) (sym is) (refl, refl)
        as_itself false c is = (is, refl, refl)

        by : (b : Bool) → stored ≡ b → Meets stored asked (key.Variable ∷ ks) 0 (term_cells x ++ cs)
        by true is =
            let sh = shape x in
            subst (λ row. Meets stored asked (key.Variable ∷ ks) 0 (row ++ cs)) (sym sh.made)
            (0, cs, by_yes stored (IsNought 0 × (cs ≡ drop sh.first.below (sh.rest ++ cs))) (By (asked && is_variable sh.first.key) (IsNought 0 × (cs ≡ sh.rest ++ cs)) ((sh.first.key ≡ key.Variable) × IsNought 0 × (cs ≡ sh.rest ++ cs))) is (refl, sym (drop_at sh.rest cs sh.first.below (sym sh.tells))), m)
        by false is = term_cases (λ x. s n ≡ term_under u x → Meets stored asked (key.Variable ∷ ks) 0 (term_cells x ++ cs))
            (λ k _. subst (λ row. Meets stored asked (key.Variable ∷ ks) 0 (row ++ cs)) (sym (cells-Var k)) (
              0,
              cs,
              subst (λ b. By (b && true) (IsNought 0 × (cs ≡ cs)) (By (asked && true) (IsNought 0 × (cs ≡ cs)) ((key.Variable ≡ key.Variable) × IsNought 0 × (cs ≡ cs)))) (sym is)
                  (as_itself asked (record { key = key.Variable; below = 0 }) refl),
              m,
            ))
            (λ g ys e. differ n g (map (term_under u) ys) (sym (keeps is n) ∙ e ∙ under-App u g ys)) x e

    row_meets : (xs : List Term) → AllByRecursion IsMet xs → (ys : List Term) → map (term_under s) xs ≡ map (term_under u) ys → (ks : List Key) (cs : List Cell) → Meets stored asked ks 0 cs
        → Meets stored asked (keys_of (row_of xs) ++ ks) 0 (row_of ys ++ cs)
    row_meets [] h [] e ks cs m = m
    row_meets [] h (y ∷ ys) e ks cs m = absurd cc
    row_meets (x ∷ xs) h [] e ks cs m = absurd cc
    row_meets (x ∷ xs) h (y ∷ ys) e ks cs m =
        let one : term_under s x ≡ term_under u y = cc in
        let more : map (term_under s) xs ≡ map (term_under u) ys = cc in
        let rest = row_meets xs h.1 ys more ks cs m in
        subst (λ l. Meets stored asked l 0 (row_of (y ∷ ys) ++ cs)) (sym (keys_then x xs ks))
        (subst (λ row. Meets stored asked (keys_of (term_cells x) ++ (keys_of (row_of xs) ++ ks)) 0 row) (sym (append_assoc (term_cells y) (row_of ys) cs))
        (h.0 y one (keys_of (row_of xs) ++ ks) (row_of ys ++ cs) rest))

    -- a symbol of the path
    symbol_meets : (f : SymId) (xs : List Term) → AllByRecursion IsMet xs → IsMet (App f xs)
    symbol_meets f xs h x e ks cs m = subst (λ row. Meets stored asked (keys_of row ++ ks) 0 (term_cells x ++ cs)) (sym (cells-App f xs))
        (term_cases (λ x. App f (map (term_under s) xs) ≡ term_under u x → Meets stored asked (named f xs ∷ (keys_of (row_of xs) ++ ks)) 0 (term_cells x ++ cs)) at_variable at_symbol x (sym (under-App s f xs) ∙ e))
      where
        by : (b : Bool) (k : ℕ) → asked ≡ b → App f (map (term_under s) xs) ≡ u k → Meets stored asked (named f xs ∷ (keys_of (row_of xs) ++ ks)) 0 (record { key = key.Variable; below = 0 } ∷ cs)
        by true k is e = (
          length xs,
          cs,
          by_no stored (IsNought (length xs) × (cs ≡ cs)) (By (asked && true) ((length xs ≡ length (map term_cells xs)) × (cs ≡ cs)) ((key.Variable ≡ named f xs) × IsNought (length xs) × (cs ≡ cs)))
              (by_yes asked ((length xs ≡ length (map term_cells xs)) × (cs ≡ cs)) ((key.Variable ≡ named f xs) × IsNought (length xs) × (cs ≡ cs)) is (sym (length-map xs term_cells), refl)),
          subst (λ n. Meets stored asked (keys_of (row_of xs) ++ ks) n cs) (let e : 0 + length xs ≡ length xs = omega arith in e) (row_passed_over xs (over_each xs) ks 0 cs m),
        )
        by false k is e = differ k f (map (term_under s) xs) (sym (still is k) ∙ sym e)

        at_variable : (k : ℕ) → App f (map (term_under s) xs) ≡ term_under u (Var k) → Meets stored asked (named f xs ∷ (keys_of (row_of xs) ++ ks)) 0 (term_cells (Var k) ++ cs)
        at_variable k e = subst (λ row. Meets stored asked (named f xs ∷ (keys_of (row_of xs) ++ ks)) 0 (row ++ cs)) (sym (cells-Var k)) (by asked k refl (e ∙ under-Var u k))

        at_symbol : (g : SymId) (ys : List Term) → App f (map (term_under s) xs) ≡ term_under u (App g ys) → Meets stored asked (named f xs ∷ (keys_of (row_of xs) ++ ks)) 0 (term_cells (App g ys) ++ cs)
        at_symbol g ys e =
            let both = App-injective f g (map (term_under s) xs) (map (term_under u) ys) (e ∙ under-App u g ys) in
            let many = length-map ys term_cells ∙ sym (length-map ys (term_under u)) ∙ ap (λ l. length l) (sym both.1) ∙ length-map xs (term_under s) ∙ sym (length-map xs term_cells) in
            subst (λ row. Meets stored asked (named f xs ∷ (keys_of (row_of xs) ++ ks)) 0 (row ++ cs)) (sym (cells-App g ys))
            (0, row_of ys ++ cs, by_no stored _ _ (by_no asked _ _ ((λ i. key.Symbol (sym both.0 i) (many i)), refl, refl)), row_meets xs h ys both.1 ks cs m)

    term_meets : (p : Term) → IsMet p
    term_meets p = term_ind IsMet
        (λ n x e ks cs m. subst (λ row. Meets stored asked (keys_of row ++ ks) 0 (term_cells x ++ cs)) (sym (cells-Var n)) (takes n x (sym (under-Var s n) ∙ e) ks cs m))
        symbol_meets p

    each_meets : (xs : List Term) → AllByRecursion IsMet xs
    each_meets [] = tt
    each_meets (x ∷ xs) = (term_meets x, each_meets xs)

    pub literal_meets : (p l : Literal) → p.positive ≡ l.positive → atom_of (literal_under s p) ≡ atom_of (literal_under u l) → Meets stored asked (keys_of (literal_cells p)) 0 (literal_cells l)
    literal_meets p l signs e =
        let args : map (term_under s) p.args ≡ map (term_under u) l.args = ap (λ (a : Atom). a.args) e in
        let preds : p.pred ≡ l.pred = ap (λ (a : Atom). a.pred) e in
        let whole = row_meets p.args (each_meets p.args) l.args args [] [] (refl, refl) in
        let bare = subst (λ ks. Meets stored asked ks 0 (row_of l.args ++ [])) (append-nil (keys_of (row_of p.args))) whole in
        let both = subst (Meets stored asked (keys_of (row_of p.args)) 0) (append-nil (row_of l.args)) bare in
        (0, row_of l.args, by_no stored _ _ (by_no asked _ _ ((λ i. key.Atom (sym signs i) (sym preds i)), refl, refl)), both)
