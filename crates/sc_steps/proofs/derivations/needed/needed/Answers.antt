use Rattle.std.proofs.Common.{◌≡◌, ◌∙◌, sym, ap, subst, ℕ, ◌+◌, ◌<◌, List, [], ◌∷◌, ◌++◌, reverse, get_or, true≢false}
use Rattle.std.specs.Ordering.{nat_cmp}
use Rattle.std.specs.BTreeSet.{contains}
use Rattle.std.proofs.lemmas.List.{reverse-append}
use Rattle.sc_steps.specs.Splice.{AreNeeded}
use Rattle.sc_steps.proofs.Walking.{Walk, walk_begins, walk_goes, walk_ends, walk_falls, visits, waits_alone, none_waits}
use Rattle.sc_steps.proofs.derivations.needed.needed.Goals as goal

-- the list that grew at its end grows at its head where it is reversed
turned : (xs ys : List ℕ) (n : ℕ) → ys ≡ xs ++ n ∷ [] → reverse ys ≡ n ∷ reverse xs
turned xs ys n e = ap reverse e ∙ reverse-append xs (n ∷ [])

pub loop-n-init : goal.loop-n-init
loop-n-init c =
    subst (λ ns. Walk c.args.inputs.now c.args.derived.now c.args.goal ns (contains nat_cmp c.insert.new.self)) (sym (ap reverse c.new-found.ensures.items))
    (walk_begins c.args.inputs.now c.args.derived.now c.args.goal (contains nat_cmp c.insert.new.self)
    (waits_alone c.new-pending.result c.insert.new.self c.args.goal c.new-pending.ensures.empty c.in_ok-insert.ensures.updates))

pub loop-n-smaller : goal.loop-n-smaller
loop-n-smaller c =
    let visit = visits c.args.inputs.now c.args.derived.now c.loop-n.pending c.pop_last.new.self c.add_named_of.new.pending c.in-Some.n
    c.in-Some.ensures.member c.in-Some.ensures.greatest c.in-Some.ensures.updates c.in_ok-add_named_of.ensures in
    let falls = walk_falls c.args.inputs.now c.args.derived.now c.args.goal c.requires.derivations c.requires.goal.0 c.requires.goal.1
    (reverse c.loop-n.found.items) (contains nat_cmp c.loop-n.pending) c.in-Some.n c.loop-n.invariant visit.waited in
    subst (λ ns. get_or ns 0 (c.args.goal + 1) < get_or (reverse c.loop-n.found.items) 0 (c.args.goal + 1)) (sym (turned c.loop-n.found.items c.push.new.self.items c.in-Some.n c.in_ok-push.ensures.items)) falls

pub loop-n-preserved : goal.loop-n-preserved
loop-n-preserved c =
    let visit = visits c.args.inputs.now c.args.derived.now c.loop-n.pending c.pop_last.new.self c.add_named_of.new.pending c.in-Some.n
    c.in-Some.ensures.member c.in-Some.ensures.greatest c.in-Some.ensures.updates c.in_ok-add_named_of.ensures in
    subst (λ ns. Walk c.args.inputs.now c.args.derived.now c.args.goal ns (contains nat_cmp c.add_named_of.new.pending))
    (sym (turned c.loop-n.found.items c.push.new.self.items c.in-Some.n c.in_ok-push.ensures.items))
    (walk_goes c.args.inputs.now c.args.derived.now c.args.goal c.requires.derivations c.requires.goal.0 c.requires.goal.1
    (reverse c.loop-n.found.items) (contains nat_cmp c.loop-n.pending) (contains nat_cmp c.add_named_of.new.pending) c.in-Some.n c.loop-n.invariant visit)

pub returns : goal.returns
returns c =
    let none = c.in_default.ensures.variant in
    subst (AreNeeded c.args.inputs.now c.args.derived.now c.args.goal) (sym c.reverse.ensures.items)
    (walk_ends c.args.inputs.now c.args.derived.now c.args.goal c.requires.derivations c.requires.goal.0 c.requires.goal.1
    (reverse c.loop-n.found.items) (contains nat_cmp c.loop-n.pending) c.loop-n.invariant
    (none_waits c.loop-n.pending (λ h. true≢false (sym (none.1 h)))))
