-- The pieces of a task, and the answers of searches in them.
use Rattle.std.proofs.Common.{◌≡◌, ◌∙◌, sym, ap, subst, refl, ℕ, ◌+◌, ◌-◌, ◌<◌, ◌≤◌, ◌⊎◌, inl, inr, Bool, true, false, List, [], ◌∷◌, length, take, nat_eq, Option, Some, None, if◌then◌else◌, arith}
use Rattle.std.specs.List.{AllZip}
use Rattle.std.proofs.lemmas.Bool.{eqb-true, eqb-false}
use Rattle.sc_interp.specs.Structure.{Structure}
use Rattle.sc_cells.specs.Cells.{Entry, Prefix, AreCells, AreValues, IsConsistent, values_below}
use Rattle.sc_cells.specs.Order.{IsBefore}
use Rattle.sc_find.specs.declared.answer.Piece.{Piece}
use Rattle.sc_find.specs.declared.answer.Piece.TheVariants.{Whole, First}
use Rattle.sc_find.specs.Models.{Task, IsInPiece, IsPiece, IsModel, FindsNoModel, AreTablesWith, IsFirstModel}
use Rattle.sc_find.specs.Answers.{IsAsked, value_in, NoneBefore}
use Rattle.sc_find.specs.Search.{IsFirst}
use Rattle.sc_find.proofs.PrefixLaws.{shorter_is_consistent}
use Rattle.sc_find.proofs.JobLaws.{one_list}

-- ---- the value of a piece

empty_if : {B : Type 0} (x : Entry) (xs ys : List Entry) → ys ≡ [] → ys ≡ x ∷ xs → B
empty_if x xs ys none some = let wrong : ◌≡◌ {A = List Entry} [] (x ∷ xs) = sym none ∙ some in cc

pub asked_is : (task : Task) (piece : Piece) (value : Option ℕ) (cells : List Entry) → AreCells task.sig task.size cells → IsAsked task piece value → value_in piece (length cells) ≡ value
asked_is task Whole value cells are is = sym is
asked_is task (First p) value cells are is = by (nat_eq (length cells) 0) refl is.2
  where
    same : is.0 ≡ cells
    same = one_list task.sig task.size is.0 cells is.1 are

    by : (b : Bool) → nat_eq (length cells) 0 ≡ b
        → ((is.0 ≡ []) × (p ≡ 1) × (value ≡ None)) ⊎ ((v : ℕ) × (first : Entry) × (rest : List Entry) × (is.0 ≡ first ∷ rest) × (v < values_below task.sig task.size first) × (p ≡ v + 1) × (value ≡ Some v))
        → (if (nat_eq (length cells) 0) then (let none : Option ℕ = None in none) else Some (p - 1)) ≡ value
    by true zero_is (inl one) = ap (λ b. if b then (let none : Option ℕ = None in none) else Some (p - 1)) zero_is ∙ sym one.2
    by true zero_is (inr more) =
        let long : length cells ≡ length (more.1 ∷ more.2) = ap length (sym same ∙ more.3) in
        absurd (omega (arith, eqb-true (length cells) 0 zero_is, long))
    by false unlike (inl one) =
        let none : length cells ≡ 0 = ap length (sym same ∙ one.0) in
        absurd (eqb-false (length cells) 0 unlike none)
    by false unlike (inr more) =
        let less : p - 1 ≡ more.0 = omega (arith, more.5) in
        ap (λ b. if b then (let none : Option ℕ = None in none) else Some (p - 1)) unlike ∙ ap (λ (n : ℕ). Some n) less ∙ sym more.6

-- ---- answers

pub no_model : (task : Task) (piece : Option ℕ) (cells : List Entry) → AreCells task.sig task.size cells → ((values : List ℕ) → ¬ IsModel task piece cells values) → FindsNoModel task piece
no_model task piece cells are none others values h m =
    none values (subst (λ cs. IsModel task piece cs values) (one_list task.sig task.size others cells h are) m)

pub none_at_all : (task : Task) (piece : Option ℕ) (p : Prefix) → AreCells task.sig task.size p.cells → p.values ≡ [] → ¬ IsConsistent task.clauses task.size p → FindsNoModel task piece
none_at_all task piece p are empty never = no_model task piece p.cells are (λ values m.
    never (subst (λ vs. IsConsistent task.clauses task.size (record { cells = p.cells; values = vs })) (sym empty) (shorter_is_consistent task.clauses task.size p.cells [] values m.1.consistent)))

pub first_model : (task : Task) (piece : Option ℕ) (cells : List Entry) (p : Prefix) (values : List ℕ) (t : Structure) → AreCells task.sig task.size cells → IsFirst task piece cells p → values ≡ p.values
    → ((cells : List Entry) → AreCells task.sig task.size cells → AreTablesWith task cells values t) → IsFirstModel task piece t
first_model task piece cells p values t are first same tables = record {
  cells = cells;
  are_cells = are;
  values = p.values;
  model = first.model;
  least = first.least;
  tables = subst (λ vs. AreTablesWith task cells vs t) same (tables cells are);
}

-- ---- all pieces

-- the values are in the piece of their first value
abbrev IsOfPiece : Task → List Entry → List ℕ → Type 0
IsOfPiece task cells values = (p : ℕ) × (piece : Option ℕ) × IsPiece task p piece × IsModel task piece cells values

pub piece_of : (task : Task) (cells : List Entry) (values : List ℕ) → AreCells task.sig task.size cells → IsModel task None cells values → IsOfPiece task cells values
piece_of task cells values are m = by cells values refl refl m
  where
    by : (cs : List Entry) (vs : List ℕ) → cells ≡ cs → values ≡ vs → IsModel task None cells values → IsOfPiece task cells values
    by [] vs none e m = (1, None, (cells, are, inl (none, refl, refl)), m)
    by (first ∷ rest) [] some e m =
        let long : length (first ∷ rest) ≡ 0 = sym (ap length some) ∙ sym m.0 ∙ ap length e in
        absurd (omega (arith, long))
    by (first ∷ rest) (v ∷ vs) some e m =
        let range : AllZip (λ cell v. v < values_below task.sig task.size cell) (first ∷ take (length vs) rest) (v ∷ vs)
        = subst (λ cs. AllZip (λ cell v. v < values_below task.sig task.size cell) (take (length (v ∷ vs)) cs) (v ∷ vs)) some (subst (λ ws. AreValues task.sig task.size cells ws) e m.1.in_range) in (
          v + 1,
          Some v,
          (cells, are, inr (v, first, rest, some, range.0, refl, refl)),
          (
            m.0,
            record {
              no_longer = m.1.no_longer;
              in_range = m.1.in_range;
              in_piece = subst (IsInPiece (Some v)) (sym e) (let same : v ≡ v = refl in same);
              consistent = m.1.consistent;
            },
          ),
        )

pub none_of_all : (task : Task) (end count : ℕ) → end ≡ count + 1 → ((p : ℕ) (piece : Option ℕ) → IsPiece task p piece → (1 ≤ p) × (p ≤ count)) → NoneBefore task end → FindsNoModel task None
none_of_all task end count is few none cells values are m =
    let of = piece_of task cells values are m in
    let within = few of.0 of.1 of.2 in
    none of.0 of.1 (omega (arith, within.1, is)) of.2 cells values are of.3

whole : (task : Task) (piece : Option ℕ) (cells : List Entry) (values : List ℕ) → IsModel task piece cells values → IsModel task None cells values
whole task piece cells values m = (m.0, record { no_longer = m.1.no_longer; in_range = m.1.in_range; in_piece = tt; consistent = m.1.consistent })

-- ---- two models, one before the other: the first is in the same piece, or in one before

pub record IsEarlier (task : Task) (cells : List Entry) (p : ℕ) (piece : Option ℕ) (others : List ℕ) : Type 0 where
  pub number : ℕ
  pub of : Option ℕ
  pub is_piece : IsPiece task number of
  pub model : IsModel task of cells others
  pub before : (number < p) ⊎ (of ≡ piece)

pub earlier : (task : Task) (p : ℕ) (piece : Option ℕ) (cells : List Entry) (values others : List ℕ) → AreCells task.sig task.size cells → IsPiece task p piece
    → IsModel task piece cells values → IsModel task None cells others → IsBefore others values → IsEarlier task cells p piece others
earlier task p piece cells values others are is m n before = record {
  number = found.0;
  of = found.1;
  is_piece = found.2;
  model = found.3;
  before = by (found.2).2 is.2;
}
  where
    found : IsOfPiece task cells others
    found = piece_of task cells others are n

    mine : is.0 ≡ cells
    mine = one_list task.sig task.size is.0 cells is.1 are

    theirs : (found.2).0 ≡ cells
    theirs = one_list task.sig task.size (found.2).0 cells (found.2).1 are

    starts : (v : ℕ) (vs : List ℕ) (w : ℕ) → IsInPiece (Some w) (v ∷ vs) → v ≡ w
    starts v vs w h = h

    compare : (v w : ℕ) (xs ys : List ℕ) → 0 < length xs → 0 < length ys → IsInPiece (Some v) xs → IsInPiece (Some w) ys → IsBefore xs ys → (v < w) ⊎ (v ≡ w)
    compare v w [] ys a b h k lt = absurd (omega (arith, a))
    compare v w (x ∷ xs) [] a b h k lt = absurd (omega (arith, b))
    compare v w (x ∷ xs) (y ∷ ys) a b h k lt = elim lt [
      | inl less ↦ inl (omega (arith, less, h, k))
      | inr same ↦ inr (omega (arith, same.0, h, k))
    ]

    by : (((found.2).0 ≡ []) × (found.0 ≡ 1) × (found.1 ≡ None)) ⊎ ((v : ℕ) × (first : Entry) × (rest : List Entry) × ((found.2).0 ≡ first ∷ rest) × (v < values_below task.sig task.size first) × (found.0 ≡ v + 1) × (found.1 ≡ Some v))
        → ((is.0 ≡ []) × (p ≡ 1) × (piece ≡ None)) ⊎ ((v : ℕ) × (first : Entry) × (rest : List Entry) × (is.0 ≡ first ∷ rest) × (v < values_below task.sig task.size first) × (p ≡ v + 1) × (piece ≡ Some v))
        → (found.0 < p) ⊎ (found.1 ≡ piece)
    by (inl one) (inl two) = inr (one.2 ∙ sym two.2)
    by (inl one) (inr more) = empty_if more.1 more.2 cells (sym theirs ∙ one.0) (sym mine ∙ more.3)
    by (inr more) (inl one) = empty_if more.1 more.2 cells (sym mine ∙ one.0) (sym theirs ∙ more.3)
    by (inr more) (inr here) =
        let some : 0 < length cells = omega (arith, ap length (sym mine ∙ here.3)) in
        elim (compare more.0 here.0 others values (omega (arith, some, n.0)) (omega (arith, some, m.0)) (subst (λ q. IsInPiece q others) more.6 (found.3).1.in_piece) (subst (λ q. IsInPiece q values) here.6 m.1.in_piece) before) [
          | inl less ↦ inl (omega (arith, less, more.5, here.5))
          | inr same ↦ inr (more.6 ∙ ap (λ (v : ℕ). Some v) same ∙ sym here.6)
        ]

pub first_of_all : (task : Task) (p : ℕ) (piece : Option ℕ) (t : Structure) → IsPiece task p piece → NoneBefore task p → IsFirstModel task piece t → IsFirstModel task None t
first_of_all task p piece t is none h = record {
  cells = h.cells;
  are_cells = h.are_cells;
  values = h.values;
  model = whole task piece h.cells h.values h.model;
  least = λ others m before.
      let e = earlier task p piece h.cells h.values others h.are_cells is h.model m before in
      elim e.before [
        | inl less ↦ none e.number e.of less e.is_piece h.cells others h.are_cells e.model
        | inr same ↦ h.least others (subst (λ q. IsModel task q h.cells others) same e.model) before
      ];
  tables = h.tables;
}

pub none_more : (task : Task) (p : ℕ) (piece : Option ℕ) → IsPiece task p piece → FindsNoModel task piece → NoneBefore task p → NoneBefore task (p + 1)
none_more task p piece is never h q other less is_other = by (nat_eq q p) refl
  where
    by : (b : Bool) → nat_eq q p ≡ b → FindsNoModel task other
    by false unlike = h q other (omega (arith, less, eqb-false q p unlike)) is_other
    by true same = subst (FindsNoModel task) (value_same (eqb-true q p same)) never
      where
        cells : is.0 ≡ is_other.0
        cells = one_list task.sig task.size is.0 is_other.0 is.1 is_other.1

        value_same : q ≡ p → piece ≡ other
        value_same e = choose is.2 is_other.2
          where
            choose : ((is.0 ≡ []) × (p ≡ 1) × (piece ≡ None)) ⊎ ((v : ℕ) × (first : Entry) × (rest : List Entry) × (is.0 ≡ first ∷ rest) × (v < values_below task.sig task.size first) × (p ≡ v + 1) × (piece ≡ Some v))
                → ((is_other.0 ≡ []) × (q ≡ 1) × (other ≡ None)) ⊎ ((v : ℕ) × (first : Entry) × (rest : List Entry) × (is_other.0 ≡ first ∷ rest) × (v < values_below task.sig task.size first) × (q ≡ v + 1) × (other ≡ Some v))
                → piece ≡ other
            choose (inl one) (inl two) = one.2 ∙ sym two.2
            choose (inl one) (inr more) = empty_if more.1 more.2 is_other.0 (sym cells ∙ one.0) more.3
            choose (inr more) (inl one) = empty_if more.1 more.2 is_other.0 one.0 (sym cells ∙ more.3)
            choose (inr more) (inr here) = more.6 ∙ ap (λ (v : ℕ). Some v) (let equal : more.0 ≡ here.0 = omega (arith, more.5, here.5, e) in equal) ∙ sym here.6
