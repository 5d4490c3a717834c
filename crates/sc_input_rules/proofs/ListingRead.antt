-- Where a list is read and no limit is passed, each of its clauses keeps the limits.
use Rattle.std.proofs.Common.{◌≡◌, ◌∙◌, sym, ap, subst, refl, ℕ, List, [], ◌∷◌, ◌++◌, map, length, append_assoc, Some, None}
use Rattle.std.specs.Prelude.{codes, if◌then◌else◌}
use Rattle.std.specs.List.{AllByRecursion}
use Rattle.sc_input_rules.specs.declared.settings.Home.{Home}
use Rattle.sc_input_rules.specs.declared.token.Token.{Token}
use Rattle.sc_input_rules.specs.declared.token.Token.TheVariants.{Word, Punctuation}
use Rattle.sc_input_rules.specs.declared.token.Sign.TheVariants.{Open, Close, Stop}
use Rattle.sc_input_rules.specs.Token.{same_text}
use Rattle.sc_input_rules.specs.Reader.{Name, the_sign, a_listed_name, the_word, repeated}
use Rattle.sc_input_rules.specs.Syntax.{WrittenClause}
use Rattle.sc_input_rules.specs.Settings.{list_words, unsupported_lists}
use Rattle.sc_input_rules.specs.ProblemGrammar.{Item, Listing, the_close, listing, ended_clause, next_is_word}
use Rattle.sc_input_rules.specs.Position.{home_named, opened}
use Rattle.sc_input_rules.specs.Problem.{home_of}
use Rattle.sc_input_rules.specs.ProblemLimits.{problem_bounds, problem_fault_at}
use Rattle.sc_input_rules.proofs.ClauseSpelling.{ClauseTree, clause_tokens, clause_written}
use Rattle.sc_input_rules.proofs.Taken.{Gives, both, same, sign_taken}
use Rattle.sc_input_rules.proofs.Unpassed.{unpassed_split}
use Rattle.sc_input_rules.proofs.Standing.{HasNoStop, Stands, stands_outside, stands_closed}
use Rattle.sc_input_rules.proofs.Tokenized.{tokenized_split}
use Rattle.sc_input_rules.proofs.ListedRead.{IsAdmitted, ClausesRead, clauses_read}
use Rattle.sc_input_rules.proofs.ItemWords.{listed_taken, the_word_taken, close_taken, home_known}
use Rattle.sc_input_rules.proofs.ItemsRead.{ItemRead, Homed, as_tokens, as_written}

at_home : Home → ClauseTree → Homed
at_home h c = (h, c)

home_written : (h : Home) (cs : List WrittenClause) (trees : List ClauseTree) → cs ≡ map clause_written trees → map (λ c. (h, c)) cs ≡ map as_written (map (at_home h) trees)
unfolding at_home
home_written h cs trees e = ap (λ cs. map (λ c. (h, c)) cs) e ∙ by trees
  where
    by : (trees : List ClauseTree) → map (λ c. (h, c)) (map clause_written trees) ≡ map as_written (map (at_home h) trees)
    by [] = refl
    by (c ∷ cs) = ap (λ rest. (h, clause_written c) ∷ rest) (by cs)

home_tokens : (h : Home) (trees : List ClauseTree) → map (λ c. (h, clause_tokens c)) trees ≡ map as_tokens (map (at_home h) trees)
unfolding at_home
home_tokens h [] = refl
home_tokens h (c ∷ cs) = ap (λ rest. (h, clause_tokens c) ∷ rest) (home_tokens h cs)

home_admitted : (h : Home) (trees : List ClauseTree) → AllByRecursion IsAdmitted trees → AllByRecursion (λ (c : Homed). IsAdmitted c.1) (map (at_home h) trees)
unfolding at_home
home_admitted h [] k = tt
home_admitted h (c ∷ cs) k = (k.0, home_admitted h cs k.1)

opened-list : (at : ℕ) (text : List ℕ) (t : Token) (n : Name) (ts : List Token) → text ≡ codes "list" → home_named (Word n.at n.text) ≡ Some (home_of n.text) → opened (Word at text ∷ t ∷ Word n.at n.text ∷ ts) ≡ Some (home_of n.text)
opened-list at text t n ts e k = ap (λ (w : List ℕ). if same_text (codes "list") w then home_named (Word n.at n.text) else None) e ∙ k

-- the three parts of a list: the sentence that opens it, its clauses, the sentence that closes it
listing_from : (s : List Token) (stop end stop' : ℕ) (n : Name) (cs : List WrittenClause) (ts us left : List Token) → opened s ≡ Some (home_of n.text) → HasNoStop s
    → ts ≡ (s ++ Punctuation stop Stop ∷ []) ++ us → ClausesRead us cs (Word end (codes "end_of_list") ∷ Punctuation stop' Stop ∷ left) → ItemRead ts (Listing n cs) left
listing_from s stop end stop' n cs ts us left o no_stop e r =
    let first = s ++ Punctuation stop Stop ∷ [] in
    let last = (Word end (codes "end_of_list") ∷ []) ++ Punctuation stop' Stop ∷ [] in
    let h = home_of n.text in
    record {
      taken = first ++ (r.taken ++ last);
      tokens = e ∙ ap (λ us. first ++ us) (r.tokens ∙ sym (append_assoc r.taken last left)) ∙ sym (append_assoc first (r.taken ++ last) left);
      holds = λ earlier before st u tokenized.
          let u1 = unpassed_split (problem_fault_at problem_bounds) earlier first (r.taken ++ last) u in
          let u2 = unpassed_split (problem_fault_at problem_bounds) (earlier ++ first) r.taken last u1.1 in
          let f1 = tokenized_split first (r.taken ++ last) tokenized in
          let f2 = tokenized_split r.taken last f1.1 in
          let c = r.holds (earlier ++ first) h before (stands_outside earlier s stop (Some (home_of n.text)) before st no_stop o) u2.0 f2.0 in
          let after = stands_closed ((earlier ++ first) ++ r.taken) (Word end (codes "end_of_list") ∷ []) stop' h (before ++ map (λ c. (h, clause_tokens c)) c.trees) c.stands (refl, tt) refl in
          record {
            trees = map (at_home h) c.trees;
            written = home_written h cs c.trees c.written;
            admitted = home_admitted h c.trees c.admitted;
            number = tt;
            stands = subst (λ us. Stands us None (before ++ map as_tokens (map (at_home h) c.trees)))
                (append_assoc (earlier ++ first) r.taken last ∙ append_assoc earlier first (r.taken ++ last))
                (subst (λ new. Stands (((earlier ++ first) ++ r.taken) ++ last) None (before ++ new)) (home_tokens h c.trees) after);
          };
    }

pub listing_read : (at : ℕ) (text : List ℕ) (ts : List Token) (i : Item) (left : List Token) → text ≡ codes "list" → Gives (listing ts) i left → ItemRead (Word at text ∷ ts) i left
listing_read at text ts i left e g =
    let b = both (the_sign Open ts) _ i left g in
    let o = sign_taken Open ts b.value b.left b.first in
    let c = both (a_listed_name list_words unsupported_lists b.left) _ i left b.second in
    let n = listed_taken list_words unsupported_lists b.left c.value c.left c.first in
    let d = both (the_close c.left) _ i left c.second in
    let q = close_taken c.left d.value d.left d.first in
    let f = both (repeated (next_is_word (codes "end_of_list")) ended_clause (length d.left) d.left) _ i left d.second in
    let k = both (the_word (codes "end_of_list") f.left) _ i left f.second in
    let w = the_word_taken (codes "end_of_list") f.left k.value k.left k.first in
    let l = both (the_sign Stop k.left) _ i left k.second in
    let t = sign_taken Stop k.left l.value l.left l.first in
    let z = same (Listing c.value f.value) i l.left left l.second in
    let name = Word c.value.at c.value.text in
    let close = Punctuation q.closing Close ∷ [] in
    let r = clauses_read (length d.left) d.left f.value f.left f.first in
    let ends : f.left ≡ Word w.at (codes "end_of_list") ∷ Punctuation t.at Stop ∷ left =
    w.tokens ∙ ap (λ us. Word w.at (codes "end_of_list") ∷ us) (t.tokens ∙ ap (λ us. Punctuation t.at Stop ∷ us) z.left) in
    subst (λ i. ItemRead (Word at text ∷ ts) i left) z.value
    (listing_from (Word at text ∷ Punctuation o.at Open ∷ name ∷ close) q.stop w.at t.at c.value f.value (Word at text ∷ ts) d.left left
    (opened-list at text (Punctuation o.at Open) c.value close e (home_known c.value.text n.listed c.value.at)) (refl, (refl, (refl, (refl, tt))))
    (ap (λ us. Word at text ∷ us) (o.tokens ∙ ap (λ us. Punctuation o.at Open ∷ us) (n.tokens ∙ ap (λ us. name ∷ us) q.tokens)))
    (subst (ClausesRead d.left f.value) ends r))
