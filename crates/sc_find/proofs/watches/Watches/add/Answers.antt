use Rattle.std.proofs.Common.{◌≡◌, ◌∙◌, sym, ap, subst, refl, ◌<◌, ◌++◌, ◌∷◌, [], length, slice_set, arith}
use Rattle.std.proofs.lemmas.Option.{slice_get_read}
use Rattle.sc_find.specs.declared.watch.Watch.{Watch}
use Rattle.sc_find.specs.Linked.{Board, AreLinked}
use Rattle.sc_find.proofs.LinkLaws.{added_linked, set_long}
use Rattle.sc_find.proofs.watches.Watches.add.Goals as goal

pub invariant_of-self-2 : goal.invariant_of-self-2
invariant_of-self-2 c =
    let w : Watch = record { instance = c.args.instance; cell = c.args.cell; depth = c.args.depth; next = c.index.result.now } in
    let latest = c.self.inside.latest.items in
    let ws = c.self.inside.watches.items in
    let many : length latest ≡ c.args.self.now.cells = ap (λ (b : Board). b.cells) c.self.view_is in
    let lt : c.args.cell < length latest = omega (arith, many, c.requires) in
    let was = slice_get_read latest _ c.args.cell c.index.result.now refl lt c.index.ensures in
    let more : c.push.new.self.items ≡ ws ++ w ∷ [] = c.in_ok-push.ensures.items in
    let count : length (ws ++ w ∷ []) ≡ c.len.result = omega (arith, ap length more, c.len.ensures) in
    subst (λ n. AreLinked (slice_set latest c.args.cell n) c.push.new.self.items) count
    (subst (AreLinked (slice_set latest c.args.cell (length (ws ++ w ∷ [])))) (sym more) (added_linked latest ws c.self.invariant w was))

pub returns : goal.returns
returns c =
    let w : Watch = record { instance = c.args.instance; cell = c.args.cell; depth = c.args.depth; next = c.index.result.now } in
    let latest = c.self.inside.latest.items in
    let many : length (slice_set latest c.args.cell c.len.result) ≡ c.args.self.now.cells = set_long latest c.args.cell c.len.result ∙ ap (λ (b : Board). b.cells) c.self.view_is in
    let more : c.push.new.self.items ≡ c.args.self.now.watches ++ w ∷ [] = c.in_ok-push.ensures.items ∙ ap (λ (b : Board). b.watches ++ w ∷ []) c.self.view_is in
    (c.index.result.now, λ i. record { cells = many i; watches = more i })
