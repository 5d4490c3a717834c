-- What the definitions mean is one thing.
use Rattle.sc_core_rules.specs.Sites.{IsSite, site_numbers, SitesAreOne}
use Rattle.sc_core_rules.proofs.FirstLaws.{first_is_one}

-- the sites of a turn; beside it stand `joint_instance_is_one`, `conclusion_is_one`, `processing_is_one` and `run_is_one`
pub sites_are_one : SitesAreOne
sites_are_one flags given usable limit sites others one two = first_is_one site_numbers (IsSite flags given usable) limit sites others one two
