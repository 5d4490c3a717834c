use Rattle.std.proofs.Common.{◌≡◌, ◌∙◌, sym, ap, subst, ℕ, ◌+◌, ◌<◌, List, length, get_or, Contains, MatchOption, arith}
use Rattle.std.proofs.lemmas.List.{get_or_default}
use Rattle.sc_term.specs.declared.Literal.{Literal}
use Rattle.sc_term.specs.declared.Numbered.{Numbered}
use Rattle.sc_term.specs.declared.Term.{Term}
use Rattle.sc_term.specs.Numbering.{numbered}
use Rattle.sc_steps.proofs.LineLaws.{some_so}
use Rattle.sc_core_rules.specs.Order.{ends, goes}
use Rattle.sc_resolve.specs.ByNumber.{seen}
use Rattle.sc_resolve.proofs.OrderLaws.{seen_or}
use Rattle.sc_demod.specs.Deleting.{IsRemoval, IsFirstRemoval, RemovesNone}
use Rattle.sc_demod.proofs.FindLaws.{number_got}
use Rattle.sc_demod.proofs.PartLaws.{agrees_with}
use Rattle.sc_demod.proofs.CutLaws.{named, least_removal, deletes_once, cut_checks, none_left, none_more, nothing_left, light_rest, shallow_rest, shorter}
use Rattle.sc_demod.proofs.unit.unit_delete_by.Goals as goal

-- the unit of a first removal, read at its place
read_removal : (units : List Numbered) (l : Literal) (place : ℕ) (terms : List Term) (u : Numbered) (h : IsFirstRemoval units l place terms) → u ≡ get_or units place u → IsRemoval l u terms
read_removal units l place terms u h at = subst (λ u. IsRemoval l u terms) (h.there ∙ get_or_default units place h.unit u h.within ∙ sym at) h.removal

pub cut-requires-clause-removes : goal.cut-requires-clause-removes
cut-requires-clause-removes c =
    let units = seen c.args.units.now in
    let ls = c.loop-at.clause.literals in
    let at = c.loop-at.at in
    let l = c.index-as_slice-at.result in
    let u = c.index-units-found.result.now in
    let f = c.in-Some.found in
    let here : l ≡ get_or ls at l = c.index-as_slice-at.is ∙ ap (λ (ls : List Literal). get_or ls at l) c.as_slice.ensures in
    let told = subst (λ o. MatchOption o (RemovesNone units l) (λ f. IsFirstRemoval units l f.place f.terms)) c.in-Some.is c.in_ok-found.ensures in
    let here_unit = seen_or c.args.units.now f.place c.index-units-found.result told.within c.index-units-found.is in
    some_so (numbered ls (at + 1)) (λ l. IsRemoval l u f.terms) l (number_got ls at l (omega arith) here) (read_removal units l f.place f.terms u told here_unit)

pub cut-requires-clause-agrees : goal.cut-requires-clause-agrees
cut-requires-clause-agrees c =
    let units = seen c.args.units.now in
    let l = c.index-as_slice-at.result in
    let f = c.in-Some.found in
    let told = subst (λ o. MatchOption o (RemovesNone units l) (λ f. IsFirstRemoval units l f.place f.terms)) c.in-Some.is c.in_ok-found.ensures in
    let here_unit = seen_or c.args.units.now f.place c.index-units-found.result told.within c.index-units-found.is in
    let over = c.requires.checks in
    let listed : Contains units c.index-units-found.result.now = (f.place, told.within, sym here_unit) in
    agrees_with units c.loop-at.lines c.index-units-found.result.now (over.0, over.1, c.loop-at.invariant.checks over.0 over.1 over.2) listed

pub loop-at-smaller-in-Some : goal.loop-at-smaller-in-Some
loop-at-smaller-in-Some c =
    let less : c.loop-at.at < length c.loop-at.clause.literals = omega arith in
    let short = shorter c.loop-at.clause c.in_ok-clause-in-Some.clause c.loop-at.at less c.in_ok-clause-in-Some.ensures.rest in
    omega (arith, short, less)

pub loop-at-preserved-in-Some : goal.loop-at-preserved-in-Some
loop-at-preserved-in-Some c =
    let units = seen c.args.units.now in
    let clause = c.loop-at.clause in
    let at = c.loop-at.at in
    let l = c.index-as_slice-at.result in
    let u = c.index-units-found.result.now in
    let f = c.in-Some.found in
    let h = c.in_ok-clause-in-Some.ensures in
    let cut = c.in_ok-clause-in-Some.clause in
    let inv = c.loop-at.invariant in
    let less : at < length clause.literals = omega arith in
    let here : l ≡ get_or clause.literals at l = c.index-as_slice-at.is ∙ ap (λ (ls : List Literal). get_or ls at l) c.as_slice.ensures in
    let told = subst (λ o. MatchOption o (RemovesNone units l) (λ f. IsFirstRemoval units l f.place f.terms)) c.in-Some.is c.in_ok-found.ensures in
    let here_unit = seen_or c.args.units.now f.place c.index-units-found.result told.within c.index-units-found.is in
    let same = named clause.literals at l h.literal less here h.literal_there in
    let least = least_removal units l h.literal f.place u f.terms c.requires.rising told.within here_unit (read_removal units l f.place f.terms u told here_unit) told.first same in
    let once = deletes_once units clause c.loop-at.lines (at + 1) u cut c.cut.new.lines h inv.ends inv.none least in
    let listed : Contains units u = (f.place, told.within, sym here_unit) in
    record {
      within = omega (arith, shorter clause cut at less h.rest, less);
      ends = h.ends;
      light = omega (arith, light_rest clause cut at less h.rest, inv.light);
      shallow = omega (arith, shallow_rest clause cut at h.rest, inv.shallow);
      none = none_left units clause cut at less h.rest inv.none;
      checks = λ clauses stand steps. cut_checks clauses clause c.loop-at.lines (at + 1) u cut c.cut.new.lines h (stand u listed) (inv.checks clauses stand steps);
      chain = λ z more. inv.chain z (goes once more);
    }

pub loop-at-preserved : goal.loop-at-preserved
loop-at-preserved c =
    let units = seen c.args.units.now in
    let clause = c.loop-at.clause in
    let at = c.loop-at.at in
    let l = c.index-as_slice-at.result in
    let inv = c.loop-at.invariant in
    let less : at < length clause.literals = omega arith in
    let here : l ≡ get_or clause.literals at l = c.index-as_slice-at.is ∙ ap (λ (ls : List Literal). get_or ls at l) c.as_slice.ensures in
    let told = subst (λ o. MatchOption o (RemovesNone units l) (λ f. IsFirstRemoval units l f.place f.terms)) c.in-None.is c.in_ok-found.ensures in
    record {
      within = omega (arith, less);
      ends = inv.ends;
      light = inv.light;
      shallow = inv.shallow;
      none = none_more units clause at l less here told inv.none;
      checks = inv.checks;
      chain = inv.chain;
    }

pub returns-clause-deletes : goal.returns-clause-deletes
returns-clause-deletes c =
    let inv = c.loop-at.invariant in
    inv.chain c.loop-at.lines (ends (nothing_left (seen c.args.units.now) c.loop-at.clause c.loop-at.lines c.loop-at.at inv.ends (omega arith) inv.none))
