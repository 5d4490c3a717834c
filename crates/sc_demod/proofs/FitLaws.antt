-- A demodulator fits a term where its left side can be made the term.
use Rattle.std.proofs.Common.{◌∙◌, sym, ap, List, Result, Ok, Err, Option, Some, None, IfOk, MatchOption}
use Rattle.sc_term.specs.declared.Term.{Term}
use Rattle.sc_term.specs.declared.Numbered.{Numbered}
use Rattle.sc_term.specs.Term.{term_instance, value_of}
use Rattle.sc_core_rules.specs.Rewriting.{IsEquation, Fits}
use Rattle.sc_core_rules.proofs.SimplifyLaws.{same_sides}
use Rattle.sc_unify.specs.Matching.{IsTermMatch, HasNoTermMatch}
use Rattle.sc_demod.specs.Fitting.{FitsBy}

pub is_fit : (d : Numbered) (s left right : Term) (terms : List Term) → IsEquation d.clause left right → IsTermMatch left s terms → FitsBy d s terms
is_fit d s left right terms e h = record { left = left; right = right; equates = e; long = h.long; equal = h.equal; absent = h.absent }

pub no_fit : (d : Numbered) (s left right : Term) → IsEquation d.clause left right → HasNoTermMatch left s → ¬ Fits d s
no_fit d s left right e none f =
    let both = same_sides f.0 f.1 left right (sym f.3 ∙ e) in
    none (value_of f.2) (ap (term_instance f.2) (sym both.0) ∙ sym f.4)

pub fits_where : {E : Type 0} (r : Result (Option (List Term)) E) (d : Numbered) (s left right : Term) → IsEquation d.clause left right
    → IfOk r (λ found. MatchOption found (HasNoTermMatch left s) (IsTermMatch left s))
    → IfOk r (λ found. MatchOption found (¬ Fits d s) (FitsBy d s))
fits_where (Err x) d s left right e h = tt
fits_where (Ok None) d s left right e h = no_fit d s left right e h
fits_where (Ok (Some terms)) d s left right e h = is_fit d s left right terms e h
