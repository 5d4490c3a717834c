use Rattle.sc_sos.proofs.MarkLaws.{told_by}
use Rattle.sc_sos.proofs.looking.is_marked_false.Goals as goal

pub returns-in-Some : goal.returns-in-Some
returns-in-Some c =
    let told = told_by c.args.marks.now c.args.n c.in-Some.mark.truth c.in-Some.ensures.there c.in-Some.ensures.only in
    (λ t. told.0 (c.says_false.ensures.0 t), λ h. c.says_false.ensures.1 (told.1 h))
