-- The sites of binary resolution, loop by loop.
use Rattle.std.specs.Prelude.{◌≡◌, ℕ, ◌+◌, List, Some, slice_get, length}
use Rattle.sc_term.specs.declared.Literal.{Literal}
use Rattle.sc_term.specs.declared.Numbered.{Numbered}
use Rattle.sc_term.specs.Clause.{width}
use Rattle.sc_term.specs.JointInstance.{shift}
use Rattle.sc_core_rules.specs.declared.site.BinarySite.{BinarySite}
use Rattle.sc_resolve.specs.Extending.{Below}
use Rattle.sc_resolve.specs.Literals.{AreResolvable}

-- the site of literal l, number a of the given clause, and the partner's literal at k
abbrev pub IsWithLiteral : ℕ → ℕ → Literal → List Literal → ℕ → BinarySite → Type 0
IsWithLiteral partner a l others k x =
    (x ≡ record { partner = partner; given_lit = a; partner_lit = k + 1 }) × (m : Literal) × (slice_get others k ≡ Some m) × AreResolvable l m

-- a site of the given clause's literal at k
abbrev pub IsWithClause : ℕ → List Literal → List Literal → ℕ → BinarySite → Type 0
IsWithClause partner literals others k x =
    (l : Literal) × (slice_get literals k ≡ Some l) × Below (IsWithLiteral partner (k + 1) l others) (length others) x

-- the partner's literals, renamed apart from the given clause
abbrev pub renamed : Numbered → Numbered → List Literal
renamed given partner = (shift (width given.clause) partner.clause).literals

-- a site with the usable clause at k
abbrev pub IsWithPartner : Numbered → List Numbered → ℕ → BinarySite → Type 0
IsWithPartner given usable k x =
    (p : Numbered) × (slice_get usable k ≡ Some p) × Below (IsWithClause p.number given.clause.literals (renamed given p)) (length given.clause.literals) x
