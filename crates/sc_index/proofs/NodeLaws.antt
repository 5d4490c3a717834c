-- Paths stay as the tree grows, and get longer by one edge.
use Rattle.std.proofs.Common.{◌≡◌, sym, ap, subst, refl, ℕ, zero, suc, ◌<◌, List, [], ◌∷◌, ◌++◌, length, slice_get, slice_set, Contains, IsSomeAnd, Some, None, arith}
use Rattle.std.proofs.lemmas.List.{length-set, length_push}
use Rattle.sc_index.specs.declared.flat.Key.{Key}
use Rattle.sc_index.specs.declared.tree.Node.{Node}
use Rattle.sc_index.specs.declared.tree.Edge.{Edge}
use Rattle.sc_index.specs.Nodes.{HasEdge, Reaches, Grows}

pub reaches_still : (old new : List Node) → Grows old new → (ks : List Key) (n m : ℕ) → Reaches old n ks m → Reaches new n ks m
reaches_still old new g [] n m h = h
reaches_still old new g (k ∷ ks) n m h = (h.0, g.edges n k h.0 h.1, reaches_still old new g ks h.0 m h.2)

pub reaches_further : (nodes : List Node) (ks : List Key) (n m : ℕ) (k : Key) (c : ℕ) → Reaches nodes n ks m → HasEdge nodes m k c → Reaches nodes n (ks ++ k ∷ []) c
reaches_further nodes [] n m k c h e = (c, subst (λ j. HasEdge nodes j k c) (sym h) e, refl)
reaches_further nodes (l ∷ ks) n m k c h e = (h.0, h.1, reaches_further nodes ks h.0 m k c h.2 e)

pub grows_not : (nodes : List Node) → Grows nodes nodes
grows_not nodes = record { long = omega arith; edges = λ n k m h. h; slots = λ m slot h. h }

pub grows_twice : (a b c : List Node) → Grows a b → Grows b c → Grows a c
grows_twice a b c g h = record {
  long = omega (arith, g.long, h.long);
  edges = λ n k m e. h.edges n k m (g.edges n k m e);
  slots = λ m slot s. h.slots m slot (g.slots m slot s);
}

-- ---- a node changed, a node added

set_keeps : (P : Node → Type 0) (nodes : List Node) (n : ℕ) (new : Node) (i : ℕ) → ((old : Node) → slice_get nodes n ≡ Some old → P old → P new)
    → IsSomeAnd (slice_get nodes i) P → IsSomeAnd (slice_get (slice_set nodes n new) i) P
set_keeps P [] n new i k h = h
set_keeps P (x ∷ xs) zero new zero k h = k x refl h
set_keeps P (x ∷ xs) zero new (suc i) k h = h
set_keeps P (x ∷ xs) (suc n) new zero k h = h
set_keeps P (x ∷ xs) (suc n) new (suc i) k h = set_keeps P xs n new i k h

pub set_there : (P : Node → Type 0) (nodes : List Node) (n : ℕ) (new : Node) → n < length nodes → P new → IsSomeAnd (slice_get (slice_set nodes n new) n) P
set_there P [] n new less h = absurd (omega arith)
set_there P (x ∷ xs) zero new less h = h
set_there P (x ∷ xs) (suc n) new less h = set_there P xs n new (omega arith) h

pub grows_set : (nodes : List Node) (n : ℕ) (new : Node)
    → ((old : Node) (e : Edge) → slice_get nodes n ≡ Some old → Contains old.edges e → Contains new.edges e)
    → ((old : Node) (slot : ℕ) → slice_get nodes n ≡ Some old → Contains old.slots slot → Contains new.slots slot)
    → Grows nodes (slice_set nodes n new)
grows_set nodes n new edges slots = record {
  long = omega (arith, length-set nodes n new);
  edges = λ i k m h. set_keeps (λ (node : Node). Contains node.edges (record { key = k; child = m })) nodes n new i (λ old is c. edges old (record { key = k; child = m }) is c) h;
  slots = λ i slot h. set_keeps (λ (node : Node). Contains node.slots slot) nodes n new i (λ old is c. slots old slot is c) h;
}

push_keeps : (P : Node → Type 0) (nodes : List Node) (new : Node) (i : ℕ) → IsSomeAnd (slice_get nodes i) P → IsSomeAnd (slice_get (nodes ++ new ∷ []) i) P
push_keeps P [] new i h = absurd h
push_keeps P (x ∷ xs) new zero h = h
push_keeps P (x ∷ xs) new (suc i) h = push_keeps P xs new i h

pub grows_push : (nodes : List Node) (new : Node) → Grows nodes (nodes ++ new ∷ [])
grows_push nodes new = record {
  long = omega (arith, length_push nodes new);
  edges = λ i k m h. push_keeps (λ (node : Node). Contains node.edges (record { key = k; child = m })) nodes new i h;
  slots = λ i slot h. push_keeps (λ (node : Node). Contains node.slots slot) nodes new i h;
}

-- ---- a node that is there

pub of_node : (P : Node → Type 0) (nodes : List Node) (n : ℕ) (node : Node) → slice_get nodes n ≡ Some node → IsSomeAnd (slice_get nodes n) P → P node
of_node P nodes n node is h = subst (λ o. IsSomeAnd o P) is h
