use Rattle.std.proofs.Common.{◌≡◌, ◌∙◌, sym, ap, subst, ◌++◌, ◌∷◌, [], Bool, List, ℕ, arith}
use Rattle.std.specs.Prelude.{if◌then◌else◌}
use Rattle.sc_input_rules.specs.Numbering.{Found}
use Rattle.sc_input_limits.specs.declared.symbols.WrittenSymbol.{WrittenSymbol}
use Rattle.std.specs.List.{list_any}
use Rattle.sc_input_limits.specs.Symbols.{Keeps, as_written, same_written}
use Rattle.sc_input_limits.proofs.Once.{found_again, found_new, found_too_many}
use Rattle.sc_input_limits.proofs.symbols.Symbols.add.Goals as goal

-- the symbols with one more at the end, where it isn't there
abbrev with_written : List WrittenSymbol → WrittenSymbol → List WrittenSymbol
with_written keys s = if list_any (same_written s) keys then keys else (keys ++ s ∷ [])

pub returns-then-contains : goal.returns-then-contains
returns-then-contains c =
    let f : Found = record { symbol = record { name = c.args.name.now; arity = c.args.arity; role = c.args.role }; at = c.args.at } in
    rw (← c.self.view_is) (λ found h. found_again found _ f h (sym c.contains.ensures ∙ c.if-contains.true))

pub returns-then-len-ge-MAX_SYMBOLS : goal.returns-then-len-ge-MAX_SYMBOLS
returns-then-len-ge-MAX_SYMBOLS c =
    let f : Found = record { symbol = record { name = c.args.name.now; arity = c.args.arity; role = c.args.role }; at = c.args.at } in
    rw (← c.self.view_is) (λ found h. found_too_many found _ f h (sym c.contains.ensures ∙ c.if-contains.false) (omega (arith, c.len.ensures.len, c.if-len-ge-MAX_SYMBOLS.true)))

pub returns : goal.returns
returns c =
    let f : Found = record { symbol = record { name = c.args.name.now; arity = c.args.arity; role = c.args.role }; at = c.args.at } in
    let keys = c.self.inside.symbols.keys in
    let absent = sym c.contains.ensures ∙ c.if-contains.false in
    let grown : c.insert_full.new.self.keys ≡ keys ++ as_written f.symbol ∷ [] =
    c.in_ok-insert_full.ensures.keys
    ∙ ap (λ (name : List ℕ). with_written keys (record { name = name; arity = c.args.arity; role = c.args.role })) c.in_ok-name.ensures
    ∙ ap (λ (b : Bool). if b then keys else (keys ++ as_written f.symbol ∷ [])) absent in
    rw (← c.self.view_is) (λ found h.
    let P : List WrittenSymbol → Type 0 = λ ks. Keeps (found ++ f ∷ []) ks in
    subst P (sym grown) (found_new found keys f h absent (omega (arith, c.len.ensures.len, c.if-len-ge-MAX_SYMBOLS.false))))
