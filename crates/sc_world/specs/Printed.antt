-- What is printed of a version.
use Rattle.std.specs.Prelude.{List, map}
use Rattle.sc_interp.specs.declared.plain.Claim.{Claim}
use Rattle.sc_interp.specs.Versions.{ClaimedStructure}
use Rattle.sc_core_rules.specs.Selection.{Seen}
use Rattle.sc_text_run_rules.specs.RunValue.{VersionValue, entries_of}

-- its size, the entries of its tables, and the numbers of its claims
abbrev pub printed : ClaimedStructure → VersionValue
printed v = record { size = v.tables.size; entries = entries_of v.tables; claims = map (λ (claim : Claim). claim.number) v.claims }

-- each version of each list
abbrev pub all_printed : Seen → List (List VersionValue)
all_printed lists = map (λ (versions : List ClaimedStructure). map printed versions) lists
