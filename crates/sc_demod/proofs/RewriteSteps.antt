-- What was found is what any rewrite does, and its lines.
use Rattle.std.proofs.Common.{◌≡◌, ◌∙◌, sym, ap, subst, ℕ, ◌<◌, ◌⊎◌, inl, inr, List, [], ◌∷◌, ◌++◌, length, length-append, get_or, true, Some, arith}
use Rattle.std.specs.List.{AllPairs, Contains}
use Rattle.std.proofs.lemmas.List.{get_or_default}
use Rattle.sc_term.specs.declared.Term.{Term}
use Rattle.sc_term.specs.declared.Literal.{Literal}
use Rattle.sc_term.specs.declared.Clause.{Clause}
use Rattle.sc_term.specs.declared.Line.{Line}
use Rattle.sc_term.specs.declared.Numbered.{Numbered}
use Rattle.sc_term.specs.declared.Step.TheVariants.{Para}
use Rattle.sc_term.specs.declared.Side.TheVariants.{Left}
use Rattle.sc_term.specs.Numbering.{numbered}
use Rattle.sc_term.specs.Term.{term_instance}
use Rattle.sc_term.specs.Clause.{instance, IsWithinLimits}
use Rattle.sc_term.specs.Refuted.{equation}
use Rattle.sc_term.specs.Proof.{AreSteps, Follows, clause_of}
use Rattle.sc_steps.specs.Derivation.{last_clause}
use Rattle.sc_steps.proofs.LineLaws.{clause_of_end}
use Rattle.sc_core_rules.specs.Order.{IsLeast}
use Rattle.sc_core_rules.specs.Derivation.{AddsPart}
use Rattle.sc_core_rules.specs.Rewriting.{number_of, IsEquation, Fits, IsRedex, IsFirstRedex, RewritesOnce}
use Rattle.sc_core_rules.proofs.DerivationLaws.{compared}
use Rattle.sc_core_rules.proofs.SimplifyLaws.{NumbersTell, least_one}
use Rattle.sc_core_rules.proofs.StepLaws.{follows_one}
use Rattle.sc_core_rules.proofs.CheckLaws.{part_checks, adds_checks}
use Rattle.sc_demod.specs.Finding.{FindsIn, FindsNoneIn}
use Rattle.sc_demod.specs.Standing.{Agrees}
use Rattle.sc_demod.specs.Rewriting.{AreDemods, IsPutIn, IsChange, IsIrreducible, IsRewritten}
use Rattle.sc_demod.proofs.FindLaws.{is_first, no_redex}
use Rattle.sc_demod.proofs.LeastLaws.{least_of_first}
use Rattle.sc_demod.proofs.PartLaws.{part_clause, last_stays}
use Rattle.sc_demod.proofs.RewriteLaws.{first_redex_one, value_one, value_of_fit, para_follows}

-- ---- what was found is what any rewrite does

pub numbers_tell : (ds : List Numbered) → AllPairs (λ p q. p.number < q.number) ds → NumbersTell ds
numbers_tell ds rising x y (i, less_i, at_i) (j, less_j, at_j) same = by (compared i j)
  where
    apart : (i j : ℕ) (x y : Numbered) → i < j → j < length ds → get_or ds i x ≡ x → get_or ds j y ≡ y → x.number < y.number
    apart i j x y less within at_x at_y =
        let more = rising i j x less within in
        let there = ap (λ (q : Numbered). q.number) at_x in
        let other = ap (λ (q : Numbered). q.number) (get_or_default ds j x y within ∙ at_y) in
        omega (arith, more, there, other)

    by : (i < j) ⊎ (i ≡ j) ⊎ (j < i) → x ≡ y
    by (inl less) = absurd (let h = apart i j x y less less_j at_i at_j in omega (arith, h, same))
    by (inr (inl e)) = sym at_i ∙ get_or_default ds i x y less_i ∙ ap (λ n. get_or ds n y) e ∙ at_j
    by (inr (inr less)) = absurd (let h = apart j i y x less less_i at_j at_i in omega (arith, h, same))

-- what any rewrite of the clause shares with the redex that was found
pub record Agreeing (demods : List Numbered) (c : Clause) (b : ℕ) (path : List ℕ) (d : Numbered) (redex value : Term) (terms : List Term) (before after : List Line) (h : RewritesOnce demods before after) : Type 0 where
  pub literal : h.b ≡ b
  pub way : h.path ≡ path
  pub term : h.redex ≡ redex
  pub demodulator : h.demodulator ≡ d
  pub worth : h.value ≡ value
  pub part : instance h.terms (h.demodulator).clause ≡ instance terms d.clause

module _ (demods : List Numbered) (are : AreDemods demods) (c : Clause) (b : ℕ) (path : List ℕ) (place : ℕ) (terms : List Term) (f : FindsIn demods c.literals b path place terms) where
  abbrev d : Numbered
  d = (f.found.fits).demodulator

  abbrev redex : Term
  redex = (f.found).redex

  pub listed : Contains demods d
  listed = (place, f.found.fits.within, sym f.found.fits.there)

  pub fits : Fits d redex
  fits = (f.found.fits.fit.left, f.found.fits.fit.right, terms, f.found.fits.fit.equates, f.found.fits.fit.equal)

  pub least : IsLeast number_of (λ d. Fits d redex) demods d
  least = least_of_first (λ d. Fits d redex) demods place d are.rising f.found.fits.within f.found.fits.there fits f.found.fits.first

  same_change : (before after : List Line) (h : RewritesOnce demods before after) → last_clause before ≡ Some c
      → Agreeing demods c b path d redex (term_instance terms (f.found.fits.fit).right) terms before after h
  same_change before after h last = record { literal = one.0; way = one.1; term = one.2; demodulator = who; worth = worth; part = part }
    where
      clause : h.clause ≡ c
      clause = let e : Some h.clause ≡ Some c = sym h.clause_last ∙ last in cc

      one : (h.b ≡ b) × (h.path ≡ path) × (h.redex ≡ redex)
      one = first_redex_one demods c h.b b h.path path h.redex redex (subst (λ (c : Clause). IsFirstRedex demods c h.b h.path h.redex) clause h.first) (is_first demods c b path place terms f)

      who : h.demodulator ≡ d
      who = least_one (λ d. Fits d redex) demods h.demodulator d (numbers_tell demods are.rising)
          (subst (λ (t : Term). IsLeast number_of (λ d. Fits d t) demods h.demodulator) one.2 h.least) least

      is_value : IsEquation (instance h.terms (d.clause)) redex h.value
      is_value = subst (λ (t : Term). IsEquation (instance h.terms (d.clause)) t h.value) one.2 (subst (λ (q : Numbered). IsEquation (instance h.terms q.clause) h.redex h.value) who h.is_value)

      found_value : IsEquation (instance terms (d.clause)) redex (term_instance terms (f.found.fits.fit).right)
      found_value = value_of_fit d redex terms f.found.fits.fit

      worth : h.value ≡ term_instance terms (f.found.fits.fit).right
      worth = value_one (d.clause) h.terms terms redex h.value (term_instance terms (f.found.fits.fit).right) (are.all d listed) is_value found_value

      part : instance h.terms (h.demodulator).clause ≡ instance terms (d.clause)
      part = ap (λ (q : Numbered). instance h.terms q.clause) who
          ∙ ap (λ (ls : List Literal). let r : Clause = record { literals = ls } in r) (is_value ∙ ap (λ (t : Term). equation true redex t ∷ []) worth ∙ sym found_value)

  -- an instance outside the limits
  pub heavy_part : ¬ IsWithinLimits (instance terms (d.clause)) → IsIrreducible demods c
  heavy_part not before after last agrees h = not (subst IsWithinLimits (same_change before after h last).part h.instance_within)

  -- a result outside the limits
  pub heavy_result : (part result : Clause) (value : Term) → part ≡ instance terms (d.clause) → IsEquation part redex value → IsPutIn c b path redex value result
      → ¬ IsWithinLimits result → IsIrreducible demods c
  heavy_result part result value is equates put not before after last agrees h = not (subst IsWithinLimits (ends_with ∙ same_result) h.result_within)
    where
      same : Agreeing demods c b path d redex (term_instance terms (f.found.fits.fit).right) terms before after h
      same = same_change before after h last

      from : clause_of h.mid h.k ≡ Some part
      from = part_clause before h.demodulator (instance h.terms (h.demodulator).clause) h.mid h.k (agrees h.demodulator h.least.listed) h.shows ∙ ap Some (same.part ∙ sym is)

      into : clause_of h.mid (length before) ≡ Some c
      into = last_stays before h.demodulator (instance h.terms (h.demodulator).clause) h.mid h.k c h.shows last

      follows : Follows [] h.mid result (Para h.k 1 Left (length before) h.b h.path)
      follows = subst (λ n. Follows [] h.mid result (Para h.k 1 Left (length before) n h.path)) (sym same.literal)
          (subst (λ p. Follows [] h.mid result (Para h.k 1 Left (length before) b p)) (sym same.way) (para_follows h.mid (length before) h.k b path c part result redex value from into equates put))

      same_result : (h.replaces).0 ≡ result
      same_result = follows_one [] h.mid ((h.replaces).0) result (Para h.k 1 Left (length before) h.b h.path) (h.replaces).1 follows

      line : Line
      line = record { step = Para h.k 1 Left (length before) h.b h.path; clause = (h.replaces).0 }

      ends_with : h.result ≡ (h.replaces).0
      ends_with =
          let last_is : last_clause after ≡ Some ((h.replaces).0) = subst (λ ls. last_clause ls ≡ Some ((h.replaces).0)) (sym (h.replaces).2)
          (subst (λ n. clause_of (h.mid ++ line ∷ []) n ≡ Some ((h.replaces).0)) (sym (length-append h.mid (line ∷ []))) (clause_of_end h.mid line)) in
          let e : Some h.result ≡ Some ((h.replaces).0) = sym h.result_last ∙ last_is in cc

-- a clause without a redex
pub no_change : (demods : List Numbered) (c : Clause) → FindsNoneIn demods c.literals → IsIrreducible demods c
no_change demods c none before after last agrees h =
    let clause : h.clause ≡ c = let e : Some h.clause ≡ Some c = sym h.clause_last ∙ last in cc in
    no_redex demods c none h.b h.path h.redex (subst (λ (c : Clause). IsRedex demods c h.b h.path h.redex) clause (h.first).redex)

-- the lines of a change
pub is_rewritten : (demods : List Numbered) (are : AreDemods demods) (c : Clause) (b : ℕ) (path : List ℕ) (place : ℕ) (terms : List Term) (part result : Clause)
    (x : IsChange demods c b path place terms part result) (before mid after : List Line) (k : ℕ) → last_clause before ≡ Some c → Agrees before ((x.found.found.fits).demodulator)
    → AddsPart before ((x.found.found.fits).demodulator) part mid k → after ≡ mid ++ record { step = Para k 1 Left (length before) b path; clause = result } ∷ [] → IsRewritten demods before after result
is_rewritten demods are c b path place terms part result x before mid after k last agrees shows grows = record { once = once; ends = ends; within = x.after_within }
  where
    d : Numbered
    d = (x.found.found.fits).demodulator

    redex : Term
    redex = (x.found.found).redex

    line : Line
    line = record { step = Para k 1 Left (length before) b path; clause = result }

    ends : last_clause after ≡ Some result
    ends = subst (λ ls. last_clause ls ≡ Some result) (sym grows) (subst (λ n. clause_of (mid ++ line ∷ []) n ≡ Some result) (sym (length-append mid (line ∷ []))) (clause_of_end mid line))

    follows : Follows [] mid result (Para k 1 Left (length before) b path)
    follows = para_follows mid (length before) k b path c part result ((x.found.found).redex) x.value (part_clause before ((x.found.found.fits).demodulator) part mid k agrees shows)
        (last_stays before ((x.found.found.fits).demodulator) part mid k c shows last) x.is_value x.put

    once : RewritesOnce demods before after
    once = record {
      clause = c;
      clause_last = last;
      b = b;
      path = path;
      redex = (x.found.found).redex;
      first = is_first demods c b path place terms x.found;
      demodulator = (x.found.found.fits).demodulator;
      least = least demods are c b path place terms x.found;
      terms = terms;
      value = x.value;
      is_value = subst (λ (q : Clause). IsEquation q ((x.found.found).redex) x.value) x.part_is x.is_value;
      mid = mid;
      k = k;
      shows = subst (λ (q : Clause). AddsPart before ((x.found.found.fits).demodulator) q mid k) x.part_is shows;
      replaces = (result, follows, grows);
      result = result;
      result_last = ends;
      instance_within = subst IsWithinLimits x.part_is x.part_within;
      result_within = x.after_within;
    }

pub rewrite_checks : (clauses : List Clause) (demods : List Numbered) → ((d : Numbered) → Contains demods d → numbered clauses d.number ≡ Some d.clause) → (before after : List Line)
    → RewritesOnce demods before after → AreSteps clauses before → AreSteps clauses after
rewrite_checks clauses demods stand before after h steps =
    adds_checks clauses h.mid (Para h.k 1 Left (length before) h.b h.path) after
    (part_checks clauses before h.demodulator (instance h.terms (h.demodulator).clause) h.mid h.k (stand h.demodulator h.least.listed) steps h.shows) h.replaces
