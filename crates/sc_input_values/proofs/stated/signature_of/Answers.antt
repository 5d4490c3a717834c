use Rattle.std.proofs.Common.{◌∙◌, sym, ap, subst, [], ◌∷◌, flat_map}
use Rattle.std.proofs.lemmas.List.{take_all}
use Rattle.sc_term.specs.Symbol.{same_symbol, equality}
use Rattle.sc_input_values.specs.Once.{with_each}
use Rattle.sc_input_values.specs.Listed.{clauses_in}
use Rattle.sc_input_values.specs.Names.{clause_symbols, MayJoin}
use Rattle.sc_input_values.proofs.OnceLaws.{with_each-turn}
use Rattle.sc_input_values.proofs.JoinLaws.{flat_turn, join_turn, may_join, symbols_join}
use Rattle.sc_input_values.proofs.ListingLaws.{item_symbols, flat_twice}
use Rattle.sc_input_values.proofs.stated.signature_of.Goals as goal

pub add_item-requires : goal.add_item-requires
add_item-requires c =
    let all = c.args.items.now in
    let i = c.loop-item.item-index in
    let one = c.item-item.result in
    join_turn (flat_map item_symbols) (equality ∷ []) all i one (item_symbols one) c.loop-item.sig (flat_turn item_symbols all i one c.loop-item-test.true c.item-item.is)
    (subst (MayJoin (equality ∷ [])) (flat_twice clause_symbols clauses_in all) (may_join (flat_map clauses_in all) c.requires)) c.loop-item.invariant

pub loop-item-preserved : goal.loop-item-preserved
loop-item-preserved c =
    let all = c.args.items.now in
    let i = c.loop-item.item-index in
    let one = c.item-item.result in
    c.in_ok-add_item.ensures ∙ ap (λ ss. with_each same_symbol ss (item_symbols one)) c.loop-item.invariant
    ∙ with_each-turn same_symbol (flat_map item_symbols) (equality ∷ []) all i one (item_symbols one) (flat_turn item_symbols all i one c.loop-item-test.true c.item-item.is)

pub returns : goal.returns
returns c =
    let all = c.args.items.now in
    c.loop-item.invariant ∙ ap (λ xs. with_each same_symbol (equality ∷ []) (flat_map item_symbols xs)) (take_all c.loop-item.item-index all c.loop-item-test.false)
    ∙ ap (with_each same_symbol (equality ∷ [])) (sym (flat_twice clause_symbols clauses_in all)) ∙ sym (symbols_join (flat_map clauses_in all))
