-- The first model of claims in which one more claim is true is the first model of them all.
use Rattle.std.proofs.Common.{◌≡◌, ◌∙◌, sym, ap, subst, refl, ℕ, List, [], ◌∷◌, ◌++◌, Option, Some, None}
use Rattle.std.specs.List.{All, AllByRecursion, Contains}
use Rattle.std.proofs.lemmas.List.{map-append}
use Rattle.std.proofs.lemmas.List.Elements.{All-from_recursion, recursion_from_All, All-map, All-push, Contains-append_left}
use Rattle.sc_term.specs.declared.Clause.{Clause}
use Rattle.sc_term.specs.declared.symbol.Symbol.{Symbol}
use Rattle.sc_input_rules.specs.Problem.{Stated}
use Rattle.sc_input_rules.specs.WellFormed.{IsOver}
use Rattle.sc_interp.specs.declared.plain.Claim.{Claim}
use Rattle.sc_interp.specs.Structure.{Structure, Satisfies}
use Rattle.sc_interp.specs.Versions.{ClaimedStructure, AreTrue}
use Rattle.sc_cells.specs.Cells.{Entry}
use Rattle.sc_find.specs.Models.{Task, IsModel, IsFirstModel}
use Rattle.sc_find_laws.specs.Meaning.{IsOverSignature, AreTrueIn, FoundModelsAreTrue}
use Rattle.sc_find_laws.proofs.FalseLaws.{true_is_consistent}
use Rattle.sc_find_laws.proofs.TableLaws.{tables_have}
use Rattle.sc_worker.specs.declared.trying.Tried.{Tried}
use Rattle.sc_worker.specs.declared.trying.Tried.TheVariants.{Found, GivenUp}
use Rattle.sc_worker.specs.FinderList.{claimed_clauses, task_for}
use Rattle.sc_worker.specs.Trying.{IsTried}
use Rattle.sc_worker.specs.Present.{IsPresent, IsOneMore, tables_after, IsKeptAfter}
use Rattle.sc_worker.proofs.TryingLaws.{first_is_true}

-- ---- more clauses

module _ (signature : List Symbol) (size : ℕ) (few more : List Clause) where
  abbrev task_with : List Clause → Task
  task_with clauses = record { sig = signature; clauses = clauses; size = size }

  -- what is a model of more clauses is one of fewer
  fewer : (cells : List Entry) (values : List ℕ) → ((c : Clause) → Contains few c → Contains more c) → IsModel (task_with more) None cells values → IsModel (task_with few) None cells values
  fewer cells values within h = (
    h.0,
    record {
      no_longer = h.1.no_longer;
      in_range = h.1.in_range;
      in_piece = h.1.in_piece;
      consistent = λ c a there. h.1.consistent c a (within c there);
    },
  )

  -- the first model of fewer clauses in which more are true is the first model of these
  pub first_goes_on : (t : Structure) → IsOverSignature (task_with more) → ((c : Clause) → Contains few c → Contains more c) → AreTrueIn t more
      → IsFirstModel (task_with few) None t → IsFirstModel (task_with more) None t
  first_goes_on t over within all first =
      let model = first.model in
      let has = tables_have signature size first.cells first.values first.are_cells model.0 model.1.in_range t first.tables.size first.tables.each in
      record {
        cells = first.cells;
        are_cells = first.are_cells;
        values = first.values;
        model = (
          model.0,
          record {
            no_longer = model.1.no_longer;
            in_range = model.1.in_range;
            in_piece = model.1.in_piece;
            consistent = true_is_consistent signature size (record { cells = first.cells; values = first.values }) t over.signature has more over.over all;
          },
        );
        least = λ others h. first.least others (fewer first.cells others within h);
        tables = record { over = first.tables.over; size = first.tables.size; each = first.tables.each };
      }

-- ---- one claim more

front_by : {X : Type 0} (P : X → Type 0) (xs ys : List X) → AllByRecursion P (xs ++ ys) → AllByRecursion P xs
front_by P [] ys h = tt
front_by P (x ∷ xs) ys h = (h.0, front_by P xs ys h.1)

front : {X : Type 0} (P : X → Type 0) (xs ys : List X) → All P (xs ++ ys) → All P xs
front P xs ys h = All-from_recursion P xs (front_by P xs ys (recursion_from_All P (xs ++ ys) h))

abbrev clause_of : Claim → Clause
clause_of claim = claim.clause

module _ (problem : Stated) (size : ℕ) (claims : List Claim) (c : Clause) (t : Structure) (over : IsOverSignature (task_for problem size claims))
    (more : IsOneMore problem size claims c (Some t)) where
  abbrev last : Claim
  last = record { number = more.number; clause = c }

  same : claimed_clauses claims ≡ claimed_clauses more.before ++ c ∷ []
  same = ap claimed_clauses more.claims_are ∙ map-append clause_of more.before (last ∷ [])

  over_before : IsOverSignature (task_for problem size more.before)
  over_before = record {
    signature = over.signature;
    over = front (IsOver problem.symbols) (claimed_clauses more.before) (c ∷ []) (subst (All (IsOver problem.symbols)) same over.over);
  }

  -- the claims are true in the tables that are kept, where the last one is
  pub all_true : FoundModelsAreTrue → Satisfies t c → AreTrue t claims
  all_true law one =
      let before = first_is_true (task_for problem size more.before) t more.before law over_before refl more.kept in
      subst (AreTrue t) (sym more.claims_are) (All-push (λ (claim : Claim). Satisfies t claim.clause) more.before last before one)

  -- and these are then the tables of the first model of the claims
  pub first_of_all : AreTrue t claims → IsFirstModel (task_for problem size claims) None t
  first_of_all all =
      first_goes_on problem.symbols size (claimed_clauses more.before) (claimed_clauses claims) t over
      (λ d there. subst (λ (cs : List Clause). Contains cs d) (sym same) (Contains-append_left (claimed_clauses more.before) (c ∷ []) d there))
      (All-map (Satisfies t) clause_of claims all) more.kept

-- ---- what is kept

pub keeps_after : (problem : Stated) (size budget : ℕ) (claims : List Claim) (old new : Option Structure) (tried : Tried) → IsTried (task_for problem size claims) budget claims tried
    → new ≡ tables_after tried old → IsKeptAfter problem size claims old new tried
keeps_after problem size budget claims old new (Found v) h is =
    let tables : v.tables ≡ h.tables = ap (λ (x : ClaimedStructure). x.tables) h.version in
    let now : new ≡ Some h.tables = is ∙ ap (λ (t : Structure). Some t) tables in
    subst (IsPresent problem size claims) (sym now) h.first
keeps_after problem size budget claims old new (GivenUp reason) h is = is
