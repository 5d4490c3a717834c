use Rattle.std.proofs.Common.{◌≡◌, ◌∙◌, sym, ap, ℕ, List, suc, ◌+◌, ◌-◌, length, map, Ok, arith, rules, subst}
use Rattle.sc_input_scan.specs.Told.{Fails}
use Rattle.sc_input_rules.specs.declared.token.Token.{Token}
use Rattle.std.proofs.lemmas.List.{with_items_is, length-map}
use Rattle.sc_text_run_rules.specs.declared.run.VersionText.{VersionText}
use Rattle.sc_text_run_rules.specs.RunValue.{version_value}
use Rattle.sc_text_run_rules.specs.VersionGrammar.{NextVersion, a_version}
use Rattle.sc_text_run_section.specs.Seen.{next_of, placed_of, with_version}
use Rattle.sc_text_run_section.proofs.VersionsInTurn.{version_on, version_end, version_out, version_fail, version_start}
use Rattle.sc_text_run_section.specs.OverSymbols.{HasTables, HaveTables}
use Rattle.sc_text_run_section.proofs.TablesOver.{nothing_in}
use Rattle.sc_text_run_section.proofs.version.read_lists.Goals as goal

pub loop-init : goal.loop-init
loop-init c = record {
  read = rw c.new-rest.ensures (version_start c.args.sig.now c.args.count (map (map version_value) c.in_ok-lists.lists.items) c.args.tokens.now c.in_ok-lists.ensures.empty);
  many = c.in_ok-lists.ensures.many;
  first = omega arith;
  small = omega arith;
  tables = nothing_in version_value (HasTables c.args.sig.now) c.args.count c.in_ok-lists.lists.items c.in_ok-lists.ensures.empty;
}

pub loop-preserved : goal.loop-preserved
loop-preserved c =
    let most = length c.args.tokens.now in
    let i = c.loop.counter in
    let more : most - i ≡ suc (most - (i + 1)) = omega (arith, c.loop-test.true) in
    let ls = map (map version_value) c.loop.lists.items in
    let later : ℕ → NextVersion = λ place. record { finder = c.in_ok-placed.placed.finder; place = place + 1 } in
    let same : length c.put.new.lists ≡ length c.loop.lists.items = c.in_ok-put.ensures.many ∙ ap (λ (l : List (List VersionText)). length l) c.as_mut_slice.ensures.value in
    let whole = with_items_is c.loop.lists c.put.new.lists (omega (arith, same, c.as_mut_slice.ensures.len)) in
    let seen : length ls ≡ length c.loop.lists.items = length-map c.loop.lists.items (map version_value) in
    let put = ap (map (map version_value)) whole ∙ c.in_ok-put.ensures.value
    ∙ ap (λ (l : List (List VersionText)). with_version (c.in_ok-placed.placed.finder - 1) (version_value c.in_ok-placed.placed.version) (map (map version_value) l)) c.as_mut_slice.ensures.value in
    record {
      read =
          rw c.new-rest-in-loop.ensures (version_on c.args.sig.now c.args.count most i (next_of c.loop.next) _ ls _ (placed_of c.in_ok-placed.placed) c.loop.rest c.in_ok-placed.after.now more (rw (sym c.tokens-left.ensures) (search rules))
          (ap (λ (rest : List Token). a_version c.args.sig.now c.args.count (next_of c.loop.next) rest) (sym c.tokens-left.ensures) ∙ c.in_ok-placed.ensures.value) (omega (arith, c.in_ok-placed.ensures.finder.0, c.loop.invariant.first)) (omega (arith, c.in_ok-placed.ensures.finder.1, c.loop.invariant.many, seen)) put
          (ap later c.from.ensures)
          ∙ c.loop.invariant.read);
      many = ap (λ (l : List (List VersionText)). length l) whole ∙ same ∙ c.loop.invariant.many;
      first = omega (arith, c.in_ok-placed.ensures.finder.0, c.loop.invariant.first);
      small = omega (arith, c.in_ok-placed.ensures.place, c.from.ensures);
      tables =
          subst (HaveTables c.args.sig.now) (sym whole)
          (c.in_ok-put.ensures.tables c.args.sig.now c.in_ok-placed.ensures.tables (subst (HaveTables c.args.sig.now) (sym c.as_mut_slice.ensures.value) c.loop.invariant.tables));
    }

pub returns-then-not-next_is_word-clause-value : goal.returns-then-not-next_is_word-clause-value
returns-then-not-next_is_word-clause-value c =
    rw c.tokens-left.ensures (sym c.loop.invariant.read
    ∙ version_end c.args.sig.now c.args.count (length c.args.tokens.now - c.loop.counter) (next_of c.loop.next) (map (map version_value) c.loop.lists.items) c.loop.rest (rw (sym c.tokens-left.ensures) (search rules))
    ∙ ap (λ (l : List (List VersionText)). Ok (map (map version_value) l, c.loop.rest)) (sym c.from_vec.ensures))

pub returns-in_err-placed-clause-value : goal.returns-in_err-placed-clause-value
returns-in_err-placed-clause-value c =
    let most = length c.args.tokens.now in
    let i = c.loop.counter in
    let more : most - i ≡ suc (most - (i + 1)) = omega (arith, c.loop-test.true) in
    version_fail c.args.sig.now c.args.count _ _ c.in_err-placed.field-0.0 most i (next_of c.loop.next) (map (map version_value) c.loop.lists.items) c.loop.rest _
    more (rw (sym c.tokens-left.ensures) (search rules)) (search rules) (subst (λ (rest : List Token). Fails c.in_err-placed.field-0.0 (a_version c.args.sig.now c.args.count (next_of c.loop.next) rest)) c.tokens-left.ensures c.in_err-placed.ensures.value) c.loop.invariant.read

pub returns-clause-value : goal.returns-clause-value
returns-clause-value c =
    rw c.tokens.ensures (sym c.loop.invariant.read
    ∙ version_out c.args.sig.now c.args.count (length c.args.tokens.now - c.loop.counter) (next_of c.loop.next) (map (map version_value) c.loop.lists.items) c.loop.rest
    (omega (arith, c.loop-test.false))
    ∙ ap (λ (l : List (List VersionText)). Ok (map (map version_value) l, c.loop.rest)) (sym c.from_vec-2.ensures))

pub returns-then-not-next_is_word-clause-tables : goal.returns-then-not-next_is_word-clause-tables
returns-then-not-next_is_word-clause-tables c = subst (HaveTables c.args.sig.now) (sym c.from_vec.ensures) c.loop.invariant.tables

pub returns-clause-tables : goal.returns-clause-tables
returns-clause-tables c = subst (HaveTables c.args.sig.now) (sym c.from_vec-2.ensures) c.loop.invariant.tables
