-- The clauses of a list, where they are read and no limit is passed.
use Rattle.std.proofs.Common.{◌≡◌, ◌∙◌, sym, ap, subst, refl, ℕ, zero, suc, ◌≤◌, Bool, true, false, List, [], ◌∷◌, ◌++◌, map, length, append_assoc, Some, Ok, arith}
use Rattle.std.specs.Prelude.{codes, flat_map}
use Rattle.std.specs.List.{AllByRecursion}
use Rattle.std.proofs.lemmas.List.{append-nil}
use Rattle.sc_input_rules.specs.declared.settings.Home.{Home}
use Rattle.sc_input_rules.specs.declared.token.Token.{Token}
use Rattle.sc_input_rules.specs.declared.token.Token.TheVariants.{Word, Punctuation}
use Rattle.sc_input_rules.specs.declared.token.Sign.TheVariants.{Stop}
use Rattle.sc_input_rules.specs.Token.{is_sign, is_word}
use Rattle.sc_input_rules.specs.Reader.{◌>>=◌, unexpected, next_is, the_sign, repeated}
use Rattle.sc_term.proofs.SubstitutionLaws.{all_split}
use Rattle.sc_input_rules.specs.Syntax.{WrittenClause}
use Rattle.sc_input_rules.specs.ClauseGrammar.{clause}
use Rattle.sc_input_rules.specs.ProblemGrammar.{ended_clause, next_is_word}
use Rattle.sc_input_rules.specs.ProblemLimits.{problem_bounds, problem_fault_at}
use Rattle.sc_input_rules.proofs.ClauseSpelling.{ClauseTree, Falsum, Literals, literal_tokens, behind_bar, clause_tokens, clause_written, IsSpeltClause}
use Rattle.sc_input_rules.proofs.Taken.{Gives, both, same, sign_taken}
use Rattle.sc_input_rules.proofs.ClausesRead.{clause_read}
use Rattle.sc_input_rules.proofs.ClausesBack.{literal_has_tokens}
use Rattle.sc_input_rules.proofs.Unpassed.{unpassed_split}
use Rattle.sc_input_rules.proofs.Standing.{HasNoStop, Stands}
use Rattle.sc_input_rules.proofs.NoStop.{clause_no_stop}
use Rattle.sc_input_rules.proofs.Tokenized.{AreTokenized, tokenized_split}
use Rattle.sc_input_rules.proofs.ClauseWithin.{IsUnpassed, Within, within_clause, clause_stands}

-- a clause that a list may hold
pub record IsAdmitted (c : ClauseTree) : Type 0 where
  pub spelt : IsSpeltClause c
  pub within : (front more : List Token) → clause_tokens c ≡ front ++ more → Within front
  pub tokenized : AreTokenized (clause_tokens c)

-- ---- one clause

abbrev end_word : List ℕ
end_word = codes "end_of_list"

-- the tokens up to the full stop, and what they hold
record OneRead (ts : List Token) (c : WrittenClause) (left : List Token) : Type 0 where
  tree : ClauseTree
  stop : ℕ
  written : c ≡ clause_written tree
  tokens : ts ≡ (clause_tokens tree ++ Punctuation stop Stop ∷ []) ++ left
  spelt : IsSpeltClause tree

one_read : (ts : List Token) (c : WrittenClause) (left : List Token) → Gives (ended_clause ts) c left → OneRead ts c left
one_read ts c left e =
    let b = both (clause ts) _ c left e in
    let r = clause_read ts b.value b.left b.first in
    let d = both (the_sign Stop b.left) _ c left b.second in
    let q = sign_taken Stop b.left d.value d.left d.first in
    let z = same b.value c d.left left d.second in
    record {
      tree = r.tree;
      stop = q.at;
      written = sym z.value ∙ r.written;
      tokens = r.tokens ∙ ap (λ us. clause_tokens r.tree ++ us) (q.tokens ∙ ap (λ us. Punctuation q.at Stop ∷ us) z.left) ∙ sym (append_assoc (clause_tokens r.tree) (Punctuation q.at Stop ∷ []) left);
      spelt = r.spelt;
    }

record OneHolds (earlier : List Token) (h : Home) (before : List (Home × List Token)) (c : ClauseTree) (stop : ℕ) : Type 0 where
  admitted : IsAdmitted c
  stands : Stands (earlier ++ (clause_tokens c ++ Punctuation stop Stop ∷ [])) (Some h) (before ++ (h, clause_tokens c) ∷ [])

first_token : (xs ys : List Token) → 1 ≤ length xs → (t : Token) × (ts : List Token) × (xs ++ ys ≡ t ∷ ts)
first_token [] ys le = absurd (omega arith)
first_token (x ∷ xs) ys le = (x, xs ++ ys, refl)

pub has_tokens : (c : ClauseTree) → (t : Token) × (ts : List Token) × (clause_tokens c ≡ t ∷ ts)
has_tokens (Falsum at) = (Word at (codes "$F"), [], refl)
has_tokens (Literals l bs) = first_token (literal_tokens l) (flat_map behind_bar bs) (literal_has_tokens l)

one_holds : (earlier : List Token) (h : Home) (before : List (Home × List Token)) (c : ClauseTree) (stop : ℕ) (left : List Token)
    → IsSpeltClause c → next_is (is_word end_word) ((clause_tokens c ++ Punctuation stop Stop ∷ []) ++ left) ≡ false → Stands earlier (Some h) before
    → IsUnpassed earlier (clause_tokens c ++ Punctuation stop Stop ∷ []) → AreTokenized (clause_tokens c ++ Punctuation stop Stop ∷ []) → OneHolds earlier h before c stop
one_holds earlier h before c stop left spelt e st u tokenized =
    let end = Punctuation stop Stop ∷ [] in
    let s = has_tokens c in
    let stands = clause_stands earlier h before s.0 s.1 stop st (subst HasNoStop s.2 (clause_no_stop c))
    (subst (λ ts. next_is (is_word end_word) ((ts ++ Punctuation stop Stop ∷ []) ++ left) ≡ false) s.2 e) (subst (λ ts. IsUnpassed earlier (ts ++ Punctuation stop Stop ∷ [])) s.2 u) in
    record {
      admitted = record {
        spelt = spelt;
        within = λ front more q.
            within_clause earlier h before front (more ++ end) st (all_split (λ t. is_sign Stop t ≡ false) front more (subst HasNoStop q (clause_no_stop c))).0
            (subst (IsUnpassed earlier) (ap (λ ts. ts ++ Punctuation stop Stop ∷ []) q ∙ append_assoc front more (Punctuation stop Stop ∷ [])) u);
        tokenized = (tokenized_split (clause_tokens c) (Punctuation stop Stop ∷ []) tokenized).0;
      };
      stands = subst (λ ts. Stands (earlier ++ (ts ++ Punctuation stop Stop ∷ [])) (Some h) (before ++ (h, ts) ∷ [])) (sym s.2) stands;
    }

-- ---- the clauses

-- what holds of tokens that are read as the clauses, behind earlier ones
pub record ClausesHold (earlier ts : List Token) (h : Home) (before : List (Home × List Token)) (cs : List WrittenClause) : Type 0 where
  pub trees : List ClauseTree
  pub written : cs ≡ map clause_written trees
  pub admitted : AllByRecursion IsAdmitted trees
  pub stands : Stands (earlier ++ ts) (Some h) (before ++ map (λ c. (h, clause_tokens c)) trees)

pub record ClausesRead (ts : List Token) (cs : List WrittenClause) (left : List Token) : Type 0 where
  pub taken : List Token
  pub tokens : ts ≡ taken ++ left
  pub holds : (earlier : List Token) (h : Home) (before : List (Home × List Token)) → Stands earlier (Some h) before → IsUnpassed earlier taken → AreTokenized taken → ClausesHold earlier taken h before cs

no_clauses : (ts left : List Token) → ts ≡ left → ClausesRead ts [] left
no_clauses ts left e =
    record {
      taken = [];
      tokens = e;
      holds = λ earlier h before st u tokenized.
          record { trees = []; written = refl; admitted = tt; stands = subst (λ us. Stands us (Some h) (before ++ [])) (sym (append-nil earlier)) (subst (Stands earlier (Some h)) (sym (append-nil before)) st) };
    }

one_more_clause : (ts us left : List Token) (c : WrittenClause) (cs : List WrittenClause) → next_is (is_word end_word) ts ≡ false → OneRead ts c us → ClausesRead us cs left → ClausesRead ts (c ∷ cs) left
one_more_clause ts us left c cs e r m =
    let s = clause_tokens r.tree ++ Punctuation r.stop Stop ∷ [] in
    record {
      taken = s ++ m.taken;
      tokens = r.tokens ∙ ap (λ us. s ++ us) m.tokens ∙ sym (append_assoc s m.taken left);
      holds = λ earlier h before st u tokenized.
          let parts = unpassed_split (problem_fault_at problem_bounds) earlier s m.taken u in
          let halves = tokenized_split s m.taken tokenized in
          let new : List (Home × List Token) = (h, clause_tokens r.tree) ∷ [] in
          let o = one_holds earlier h before r.tree r.stop us r.spelt (subst (λ ts. next_is (is_word end_word) ts ≡ false) r.tokens e) st parts.0 halves.0 in
          let rest = m.holds (earlier ++ s) h (before ++ new) o.stands parts.1 halves.1 in
          record {
            trees = r.tree ∷ rest.trees;
            written = (λ i. r.written i ∷ rest.written i);
            admitted = (o.admitted, rest.admitted);
            stands = subst (λ us. Stands us (Some h) (before ++ map (λ c. (h, clause_tokens c)) (r.tree ∷ rest.trees))) (append_assoc earlier s m.taken)
                (subst (Stands ((earlier ++ s) ++ m.taken) (Some h)) (append_assoc before new (map (λ c. (h, clause_tokens c)) rest.trees)) rest.stands);
          };
    }

pub clauses_read : (n : ℕ) (ts : List Token) (cs : List WrittenClause) (left : List Token) → Gives (repeated (next_is_word (codes "end_of_list")) ended_clause n ts) cs left → ClausesRead ts cs left
clauses_read zero ts cs left e = by (next_is (is_word end_word) ts) e
  where
    by : (b : Bool) → Gives (elim b [ true ↦ Ok ([], ts) | false ↦ unexpected ts ]) cs left → ClausesRead ts cs left
    by true e = let z = same [] cs ts left e in subst (λ cs. ClausesRead ts cs left) z.value (no_clauses ts left z.left)
    by false e = absurd cc
clauses_read (suc n) ts cs left e = by (next_is (is_word end_word) ts) refl e (clauses_read n)
  where
    by : (b : Bool) → next_is (is_word end_word) ts ≡ b
        → Gives (elim b [
          | true ↦ Ok ([], ts)
          | false ↦ ended_clause ts >>= λ first. repeated (next_is_word end_word) ended_clause n first.1 >>= λ others. Ok (first.0 ∷ others.0, others.1)
        ]) cs left
        → ((ts : List Token) (cs : List WrittenClause) (left : List Token) → Gives (repeated (next_is_word (codes "end_of_list")) ended_clause n ts) cs left → ClausesRead ts cs left) → ClausesRead ts cs left
    by true h e ih = let z = same [] cs ts left e in subst (λ cs. ClausesRead ts cs left) z.value (no_clauses ts left z.left)
    by false h e ih =
        let b = both (ended_clause ts) _ cs left e in
        let d = both (repeated (next_is_word end_word) ended_clause n b.left) _ cs left b.second in
        let z = same (b.value ∷ d.value) cs d.left left d.second in
        subst (λ cs. ClausesRead ts cs left) z.value
        (one_more_clause ts b.left left b.value d.value h (one_read ts b.value b.left b.first) (subst (ClausesRead b.left d.value) z.left (ih b.left d.value d.left d.first)))
