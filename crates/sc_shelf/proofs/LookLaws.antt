-- Looks that follow one another.
use Rattle.std.proofs.Common.{◌≡◌, List, [], ◌∷◌, ◌++◌, map, length, sym, ap, ◌∙◌, append_assoc, append-nil, refl}
use Rattle.std.proofs.lemmas.List.{map-append}
use Rattle.sc_interp.specs.Versions.{ClaimedStructure}
use Rattle.sc_shelf.specs.Entries.{StartsWith}
use Rattle.sc_shelf.specs.State.{WindowState}
use Rattle.sc_shelf.specs.Looks.{Rise, Looked}
use Rattle.sc_shelf.proofs.Fronts.{starts_itself, starts_trans}

rise_from : {X : Type 0} (front mid : List X) (lists : List (List X)) (whole : List X) → StartsWith mid front → Rise mid lists whole → Rise front lists whole
rise_from front mid [] whole h r = starts_trans whole mid front r h
rise_from front mid (xs ∷ lists) whole h r = (starts_trans xs mid front r.0 h, r.1)

rise_trans : {X : Type 0} (front : List X) (lists : List (List X)) (mid : List X) (more : List (List X)) (whole : List X) → Rise front lists mid → Rise mid more whole → Rise front (lists ++ more) whole
rise_trans front [] mid more whole r s = rise_from front mid more whole r s
rise_trans front (xs ∷ lists) mid more whole r s = (r.0, rise_trans xs lists mid more whole r.1 s)

-- no look
pub looked_none : (w : WindowState) → Looked w w
looked_none w = record { sights = []; rise = starts_itself w.seen; told = sym (append-nil w.looks) }

-- a look that was refused
pub looked_refused : (a b : WindowState) → StartsWith b.seen a.seen → b.looks ≡ a.looks → Looked a b
looked_refused a b grows same = record { sights = []; rise = grows; told = same ∙ sym (append-nil a.looks) }

-- a look that was Ok
pub looked_once : (a b : WindowState) → StartsWith b.seen a.seen → b.looks ≡ a.looks ++ length b.seen ∷ [] → Looked a b
looked_once a b grows told = record { sights = b.seen ∷ []; rise = (grows, starts_itself b.seen); told = told }

-- looks, and looks after them
pub looked_on : (a b c : WindowState) → Looked a b → Looked b c → Looked a c
looked_on a b c p q = record {
  sights = p.sights ++ q.sights;
  rise = rise_trans a.seen p.sights b.seen q.sights c.seen p.rise q.rise;
  told = q.told ∙ ap (λ l. l ++ map length q.sights) p.told ∙ append_assoc a.looks (map length p.sights) (map length q.sights) ∙ ap (λ l. a.looks ++ l) (sym (map-append length p.sights q.sights));
}
