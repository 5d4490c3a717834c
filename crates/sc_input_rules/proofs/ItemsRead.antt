-- The items of a problem, where they are read and no limit is passed.
use Rattle.std.proofs.Common.{◌≡◌, ◌∙◌, sym, ap, subst, refl, ℕ, Bool, true, false, List, [], ◌∷◌, ◌++◌, map, Some, None}
use Rattle.std.specs.Prelude.{codes, ◌&&◌, int_le, if◌then◌else◌}
use Rattle.std.specs.List.{AllByRecursion}
use Rattle.std.proofs.lemmas.List.{append-nil}
use Rattle.sc_input_rules.specs.declared.settings.Home.{Home}
use Rattle.sc_input_rules.specs.declared.token.Token.{Token}
use Rattle.sc_input_rules.specs.declared.token.Token.TheVariants.{Word, Punctuation}
use Rattle.sc_input_rules.specs.declared.token.Sign.TheVariants.{Open, Close, Stop}
use Rattle.sc_input_rules.specs.Token.{same_text}
use Rattle.sc_input_rules.specs.Reader.{the_sign, a_listed_name}
use Rattle.sc_input_rules.specs.Syntax.{WrittenClause}
use Rattle.sc_input_rules.specs.Settings.{Range, flag_words, unsupported_flags}
use Rattle.sc_input_rules.specs.ProblemGrammar.{Item, Setting, Assignment, Listing, the_close, setting}
use Rattle.sc_input_rules.specs.Position.{home_named, opened}
use Rattle.sc_input_rules.specs.Problem.{listed}
use Rattle.sc_input_rules.specs.ProblemLimits.{range_of}
use Rattle.sc_input_rules.proofs.ClauseSpelling.{ClauseTree, clause_tokens, clause_written}
use Rattle.sc_input_rules.proofs.Taken.{Gives, both, same, sign_taken}
use Rattle.sc_input_rules.proofs.Standing.{HasNoStop, Stands, stands_outside}
use Rattle.sc_input_rules.proofs.Tokenized.{AreTokenized}
use Rattle.sc_input_rules.proofs.ClauseWithin.{IsUnpassed}
use Rattle.sc_input_rules.proofs.ListedRead.{IsAdmitted}
use Rattle.sc_input_rules.proofs.ItemWords.{listed_taken, close_taken}

-- a number is in its parameter's range
abbrev pub NumberFits : Item → Type 0
NumberFits (Setting n positive) = Unit {0}
NumberFits (Assignment n v) = (range : Range) → range_of (Word n.at n.text) ≡ Some range → (int_le range.low v && int_le v range.high) ≡ true
NumberFits (Listing n clauses) = Unit {0}

-- ---- what holds of an item

abbrev pub Homed : Type 0
Homed = Home × ClauseTree

abbrev pub as_tokens : Homed → Home × List Token
as_tokens c = (c.0, clause_tokens c.1)

abbrev pub as_written : Homed → Home × WrittenClause
as_written c = (c.0, clause_written c.1)

-- of tokens that are read as the item, behind earlier ones
pub record ItemHolds (earlier ts : List Token) (before : List (Home × List Token)) (i : Item) : Type 0 where
  pub trees : List Homed
  pub written : listed i ≡ map as_written trees
  pub admitted : AllByRecursion (λ (c : Homed). IsAdmitted c.1) trees
  pub number : NumberFits i
  pub stands : Stands (earlier ++ ts) None (before ++ map as_tokens trees)

pub record ItemRead (ts : List Token) (i : Item) (left : List Token) : Type 0 where
  pub taken : List Token
  pub tokens : ts ≡ taken ++ left
  pub holds : (earlier : List Token) (before : List (Home × List Token)) → Stands earlier None before → IsUnpassed earlier taken → AreTokenized taken → ItemHolds earlier taken before i

-- ---- settings

-- an item that lists no clauses: a sentence that opens no list
pub one_sentence : (s : List Token) (stop : ℕ) (i : Item) (ts left : List Token) → listed i ≡ [] → HasNoStop s → opened s ≡ None → ts ≡ (s ++ Punctuation stop Stop ∷ []) ++ left
    → ((earlier : List Token) (before : List (Home × List Token)) → Stands earlier None before → IsUnpassed earlier (s ++ Punctuation stop Stop ∷ []) → NumberFits i) → ItemRead ts i left
one_sentence s stop i ts left l n o e fits =
    record {
      taken = s ++ Punctuation stop Stop ∷ [];
      tokens = e;
      holds = λ earlier before st u tokenized.
          record {
            trees = [];
            written = l;
            admitted = tt;
            number = fits earlier before st u;
            stands = subst (Stands (earlier ++ (s ++ Punctuation stop Stop ∷ [])) None) (sym (append-nil before)) (stands_outside earlier s stop None before st n o);
          };
    }

pub opened-other : (at : ℕ) (text other : List ℕ) (t u : Token) (ts : List Token) → text ≡ other → same_text (codes "list") other ≡ false → opened (Word at text ∷ t ∷ u ∷ ts) ≡ None
opened-other at text other t u ts e h = ap (λ (b : Bool). if b then home_named u else None) (ap (same_text (codes "list")) e ∙ h)

pub setting_read : (positive : Bool) (at : ℕ) (text word : List ℕ) (ts : List Token) (i : Item) (left : List Token) → text ≡ word → same_text (codes "list") word ≡ false
    → Gives (setting positive ts) i left → ItemRead (Word at text ∷ ts) i left
setting_read positive at text word ts i left e h g =
    let b = both (the_sign Open ts) _ i left g in
    let o = sign_taken Open ts b.value b.left b.first in
    let c = both (a_listed_name flag_words unsupported_flags b.left) _ i left b.second in
    let n = listed_taken flag_words unsupported_flags b.left c.value c.left c.first in
    let d = both (the_close c.left) _ i left c.second in
    let q = close_taken c.left d.value d.left d.first in
    let z = same (Setting c.value positive) i d.left left d.second in
    let name = Word c.value.at c.value.text in
    subst (λ i. ItemRead (Word at text ∷ ts) i left) z.value
    (one_sentence (Word at text ∷ Punctuation o.at Open ∷ name ∷ Punctuation q.closing Close ∷ []) q.stop (Setting c.value positive) (Word at text ∷ ts) left refl
    (refl, (refl, (refl, (refl, tt)))) (opened-other at text word (Punctuation o.at Open) name (Punctuation q.closing Close ∷ []) e h)
    (ap (λ us. Word at text ∷ us) (o.tokens ∙ ap (λ us. Punctuation o.at Open ∷ us) (n.tokens ∙ ap (λ us. name ∷ us) (q.tokens ∙ ap (λ us. Punctuation q.closing Close ∷ Punctuation q.stop Stop ∷ us) z.left))))
    (λ earlier before st u. tt))
