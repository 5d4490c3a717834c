-- How many commas and parentheses are open within the tokens of sides of at most eight arguments.
use Rattle.std.proofs.Common.{◌≡◌, ◌∙◌, sym, ap, subst, refl, ℕ, ◌+◌, ◌≤◌, List, [], ◌∷◌, ◌++◌, length, arith}
use Rattle.std.specs.List.{AllByRecursion}
use Rattle.std.proofs.lemmas.List.{append-nil}
use Rattle.sc_term.proofs.SubstitutionLaws.{all_split}
use Rattle.sc_input_rules.specs.declared.token.Token.{Token}
use Rattle.sc_input_rules.specs.declared.token.Token.TheVariants.{Word, Punctuation}
use Rattle.sc_input_rules.specs.declared.token.Sign.TheVariants.{Open, Close, Comma}
use Rattle.sc_input_rules.specs.Measures.{open_commas, first_or_none}
use Rattle.sc_input_rules.proofs.Spelling.{Head, Sides, Empty, Entry, in_brackets, behind_comma, tokens_of, side_tokens, count, occurrences, side_of}
use Rattle.sc_input_rules.proofs.ArityLaw.{open_commas-append, SmallArity, sides-commas, side-commas}
use Rattle.sc_text_laws.proofs.Prefixes.{Along, along_join, along_none, along_one, along_map}

-- at most seven commas in the innermost parentheses, and no fewer parentheses than at first
pub record FewDeep (commas : List ℕ) (us : List Token) : Type 0 where
  pub few : first_or_none (open_commas commas us) ≤ 7
  pub deep : length commas ≤ length (open_commas commas us)

pub at_once : (commas : List ℕ) (us : List Token) → first_or_none commas ≤ 7 → open_commas commas us ≡ commas → FewDeep commas us
at_once commas us few e =
    record {
      few = subst (λ (ns : List ℕ). first_or_none ns ≤ 7) (sym e) few;
      deep = subst (λ (ns : List ℕ). length commas ≤ length ns) (sym e) (omega arith);
    }

-- behind tokens that leave the same parentheses open
behind : (commas : List ℕ) (xs us : List Token) → open_commas commas xs ≡ commas → FewDeep commas us → FewDeep commas (xs ++ us)
behind commas xs us e h =
    let s : open_commas commas (xs ++ us) ≡ open_commas commas us = open_commas-append commas xs us ∙ ap (λ (ns : List ℕ). open_commas ns us) e in
    record {
      few = subst (λ (ns : List ℕ). first_or_none ns ≤ 7) (sym s) h.few;
      deep = subst (λ (ns : List ℕ). length commas ≤ length ns) (sym s) h.deep;
    }

pub join_even : (commas : List ℕ) (xs ys : List Token) → open_commas commas xs ≡ commas → Along (FewDeep commas) xs → Along (FewDeep commas) ys → Along (FewDeep commas) (xs ++ ys)
join_even commas xs ys e h k = along_join (FewDeep commas) xs ys h (along_map (FewDeep commas) (λ us. FewDeep commas (xs ++ us)) ys (λ us q. behind commas xs us e q) k)

pub word_few : (commas : List ℕ) (at : ℕ) (text : List ℕ) → first_or_none commas ≤ 7 → Along (FewDeep commas) (Word at text ∷ [])
word_few commas at text few = along_one (FewDeep commas) (Word at text) (at_once commas [] few refl) (at_once commas (Word at text ∷ []) few refl)

-- ---- parentheses

open_deeper : (commas : List ℕ) (at : ℕ) (us : List Token) → FewDeep (0 ∷ commas) us → FewDeep commas (Punctuation at Open ∷ us)
open_deeper commas at us h = let few = h.few in let deep = h.deep in record { few = few; deep = omega arith }

brackets_few : (commas : List ℕ) (h : Head) (args : Sides) → first_or_none commas ≤ 7 → Along (FewDeep (0 ∷ commas)) (tokens_of args) → Along (FewDeep commas) (in_brackets h args (tokens_of args))
brackets_few commas h Empty few ih = along_none (FewDeep commas) (at_once commas [] few refl)
brackets_few commas h (Entry g args comma others) few ih =
    let ts = tokens_of (Entry g args comma others) in
    let opening = Punctuation h.opening Open in
    let close = Punctuation h.closing Close in
    let even : open_commas commas (opening ∷ (ts ++ close ∷ [])) ≡ commas =
    open_commas-append (0 ∷ commas) ts (close ∷ []) ∙ ap (λ (ns : List ℕ). open_commas ns (close ∷ [])) (sides-commas (Entry g args comma others) 0 commas) in
    along_join (FewDeep commas) (opening ∷ []) (ts ++ close ∷ [])
    (along_one (FewDeep commas) opening (at_once commas [] few refl) (record { few = omega arith; deep = omega arith }))
    (along_join (λ us. FewDeep commas (opening ∷ us)) ts (close ∷ []) (along_map (FewDeep (0 ∷ commas)) (λ us. FewDeep commas (opening ∷ us)) ts (open_deeper commas h.opening) ih)
    (along_one (λ us. FewDeep commas (opening ∷ (ts ++ us))) close
    (open_deeper commas h.opening (ts ++ []) (ih (ts ++ []) [] (sym (append-nil (ts ++ []) ∙ append-nil ts))))
    (at_once commas (opening ∷ (ts ++ close ∷ [])) few even)))

pub side_few_by : (commas : List ℕ) (h : Head) (args : Sides) → first_or_none commas ≤ 7 → Along (FewDeep (0 ∷ commas)) (tokens_of args) → Along (FewDeep commas) (side_tokens h args)
side_few_by commas h args few ih = join_even commas (Word h.at h.text ∷ []) (in_brackets h args (tokens_of args)) refl (word_few commas h.at h.text few) (brackets_few commas h args few ih)

-- ---- sides

one_more : (n : ℕ) (ns : List ℕ) (at : ℕ) (us : List Token) → FewDeep ((n + 1) ∷ ns) us → FewDeep (n ∷ ns) (Punctuation at Comma ∷ us)
one_more n ns at us h = let few = h.few in let deep = h.deep in record { few = few; deep = omega arith }

others_few : (n : ℕ) (ns : List ℕ) (comma : ℕ) (others : Sides) → n ≤ 7 → n + (count others + 1) ≤ 8 → ((m : ℕ) → m ≤ 7 → m + count others ≤ 8 → Along (FewDeep (m ∷ ns)) (tokens_of others))
    → Along (FewDeep (n ∷ ns)) (behind_comma comma others (tokens_of others))
others_few n ns comma Empty few le ih = along_none (FewDeep (n ∷ ns)) (at_once (n ∷ ns) [] few refl)
others_few n ns comma (Entry h args comma' others) few le ih =
    let ts = tokens_of (Entry h args comma' others) in
    let sign = Punctuation comma Comma in
    let more : n + 1 ≤ 7 = omega arith in
    along_join (FewDeep (n ∷ ns)) (sign ∷ []) ts
    (along_one (FewDeep (n ∷ ns)) sign (at_once (n ∷ ns) [] few refl) (one_more n ns comma [] (at_once ((n + 1) ∷ ns) [] more refl)))
    (along_map (FewDeep ((n + 1) ∷ ns)) (λ us. FewDeep (n ∷ ns) (sign ∷ us)) ts (one_more n ns comma) (ih (n + 1) more (omega arith)))

pub sides_few : (f : Sides) (n : ℕ) (ns : List ℕ) → n ≤ 7 → n + count f ≤ 8 → AllByRecursion SmallArity (occurrences f) → Along (FewDeep (n ∷ ns)) (tokens_of f)
sides_few Empty n ns few le small = along_none (FewDeep (n ∷ ns)) (at_once (n ∷ ns) [] few refl)
sides_few (Entry h args comma others) n ns few le small =
    let inner = in_brackets h args (tokens_of args) in
    let behind = behind_comma comma others (tokens_of others) in
    let k = all_split SmallArity (occurrences args) (occurrences others) small.1 in
    let arity = small.0 in
    join_even (n ∷ ns) (side_tokens h args) behind (side-commas h args (n ∷ ns))
    (side_few_by (n ∷ ns) h args few (sides_few args 0 (n ∷ ns) (omega arith) (omega arith) k.0))
    (others_few n ns comma others few le (λ m few le. sides_few others m ns few le k.1))

pub side_few : (commas : List ℕ) (h : Head) (args : Sides) → first_or_none commas ≤ 7 → AllByRecursion SmallArity (side_of h args) → Along (FewDeep commas) (side_tokens h args)
side_few commas h args few small = let arity = small.0 in side_few_by commas h args few (sides_few args 0 commas (omega arith) (omega arith) small.1)
