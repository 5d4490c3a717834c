-- What is left to scan of a text is its last bytes: where each stands follows from how many the text has.
use Rattle.std.specs.Prelude.{ℕ, ◌-◌, Bool, true, false, List, [], ◌∷◌, length, Option, Some, None}
use Rattle.sc_input_rules.specs.declared.fault.InputKind.{InputKind}
use Rattle.sc_input_rules.specs.declared.token.Token.{Token}
use Rattle.sc_input_rules.specs.declared.token.Token.TheVariants.{Refused}
use Rattle.sc_tptp_rules.specs.CnfTokens as spec
use Rattle.sc_tptp_scan.specs.declared.region.Region.{Region}
use Rattle.sc_tptp_scan.specs.declared.region.Region.TheVariants.{Outside, InLine, AtOpening, InComment, AtClosing, InQuotes}

-- a region as code has it
abbrev pub region_of : Region → spec.Region
region_of Outside = spec.Outside
region_of InLine = spec.InLine
region_of AtOpening = spec.AtOpening
region_of InComment = spec.InComment
region_of AtClosing = spec.AtClosing
region_of InQuotes = spec.InQuotes

-- whether no token begins there
abbrev pub is_gap : Region → Bool
is_gap Outside = false
is_gap InLine = true
is_gap AtOpening = true
is_gap InComment = true
is_gap AtClosing = true
is_gap InQuotes = false

-- the tokens of the last bytes of a text of so many, which begin in that region
unfoldable pub tokens_left : Region → ℕ → List ℕ → List Token
tokens_left region total rest = spec.tokens_in (region_of region) (total - length rest) rest

-- the tokens behind a byte, or a fault there that ends them
abbrev pub stopped_by : ℕ → Option InputKind → List Token → List Token
stopped_by at None tokens = tokens
stopped_by at (Some kind) tokens = Refused at kind ∷ []
