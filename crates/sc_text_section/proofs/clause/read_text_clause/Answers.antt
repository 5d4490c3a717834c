use Rattle.std.proofs.Common.{◌≡◌, map, rules}
use Rattle.sc_input_rules.specs.Numbering.{literal_of}
use Rattle.sc_text_section.specs.Numerals.{clipped_variable}
use Rattle.sc_text_section.proofs.TermsOfNames.{clause_made}
use Rattle.sc_text_section.proofs.clause.read_text_clause.Goals as goal

pub returns : goal.returns
returns c =
    let made : c.in_ok-clause.clause ≡ record { literals = map (literal_of clipped_variable c.args.sig.now) c.in_ok-written.written } = search rules in
    clause_made c.args.sig.now c.args.tokens.now c.in_ok-written.rest.now c.in_ok-rest.rest.now c.in_ok-written.written c.in_ok-clause.clause c.in_ok-written.ensures c.in_ok-rest.ensures made
