-- What reading sides gives, by what reading the first gives.
use Rattle.std.proofs.Common.{◌≡◌, ◌∙◌, sym, ap, refl, ℕ, suc, ◌+◌, true, List, [], ◌∷◌, ◌++◌, length, Ok, Err, append_assoc, zero-add, arith}
use Rattle.std.specs.Prelude.{flat_map}
use Rattle.std.proofs.lemmas.List.Concat.{flat_map-cons}
use Rattle.std.proofs.Math.Seq.{set-append_seam}
use Rattle.std.proofs.Math.ListN.{set}
use Rattle.sc_input_rules.specs.declared.token.Token.{Token}
use Rattle.sc_input_rules.specs.declared.token.Sign.TheVariants.{Comma}
use Rattle.sc_input_rules.specs.Token.{is_sign}
use Rattle.sc_input_rules.specs.declared.written.Occurrence.{Occurrence}
use Rattle.sc_input_rules.specs.Reader.{Read, Name, a_name, ◌>>=◌, next_is, the_sign, separated}
use Rattle.sc_input_rules.specs.Syntax.{Side}
use Rattle.sc_input_rules.specs.ClauseGrammar.{side_within, arguments}
use Rattle.sc_input_grammar.specs.Behind.{behind, sides_behind}
use Rattle.sc_input_grammar.proofs.Lists.{one_more}

-- what was read behind others
pub record ReadBehind {A : Type 0} (front new : List A) (read : Read (List A)) (after : List Token) : Type 0 where
  pub more : List A
  pub was : read ≡ Ok (more, after)
  pub grown : new ≡ front ++ more

pub read_behind : {A : Type 0} (front new : List A) (read : Read (List A)) (after : List Token)
    → behind front read ≡ Ok (new, after) → ReadBehind front new read after
read_behind {A} front new (Ok r) after e =
    let both : (front ++ r.0, r.1) ≡ (new, after) = cc in
    record { more = r.0; was = ap (λ (rest : List Token). Ok (r.0, rest)) (ap (λ (q : List A × List Token). q.1) both); grown = sym (ap (λ (q : List A × List Token). q.0) both) }
read_behind front new (Err f) after e = absurd cc

-- ---- sides

in_front : (count : ℕ) (front new one : Side) (r : Read (List Side)) → new ≡ front ++ one
    → sides_behind (count + 1) new r ≡ sides_behind count front (r >>= λ others. Ok (one ∷ others.0, others.1))
in_front count front new one (Err f) e = refl
in_front count front new one (Ok r) e =
    let names : new ++ flat_map (λ s. s) r.0 ≡ front ++ flat_map (λ s. s) (one ∷ r.0) =
    rw (e, flat_map-cons) (append_assoc front one (flat_map (λ s. s) r.0)) in
    let n : count + 1 + length r.0 ≡ count + length (one ∷ r.0) = omega arith in
    ap (λ (k : ℕ). Ok ((k, new ++ flat_map (λ s. s) r.0), r.1)) n ∙ ap (λ (names : Side). Ok ((count + length (one ∷ r.0), names), r.1)) names

pub goes_on : (one : List Token → Read Side) (count : ℕ) (front new : Side) (m : ℕ) (tokens after rest : List Token)
    → behind front (one tokens) ≡ Ok (new, after) → next_is (is_sign Comma) after ≡ true → the_sign Comma after ≡ Ok (tt, rest)
    → sides_behind (count + 1) new (separated Comma one m rest) ≡ sides_behind count front (separated Comma one (suc m) tokens)
goes_on one count front new m tokens after rest e b s =
    let r = read_behind front new (one tokens) after e in
    in_front count front new r.more (separated Comma one m rest) r.grown
    ∙ sym (ap (sides_behind count front) (one_more Comma one m tokens r.more after rest r.was b s))

-- ---- a side, whose number of arguments is written in once they are read

pub record SidesBehind (count : ℕ) (front names : Side) (read : Read (List Side)) (after : List Token) : Type 0 where
  pub more : List Side
  pub was : read ≡ Ok (more, after)
  pub counted : count ≡ length more
  pub grown : names ≡ front ++ flat_map (λ s. s) more

pub sides_read : (count : ℕ) (front names : Side) (read : Read (List Side)) (after : List Token)
    → sides_behind 0 front read ≡ Ok ((count, names), after) → SidesBehind count front names read after
sides_read count front names (Ok r) after e =
    let both : ((0 + length r.0, front ++ flat_map (λ s. s) r.0), r.1) ≡ ((count, names), after) = cc in
    let inner : (0 + length r.0, front ++ flat_map (λ s. s) r.0) ≡ (count, names) = ap (λ (q : (ℕ × Side) × List Token). q.0) both in
    let counted : 0 + length r.0 ≡ count = ap (λ (q : ℕ × Side). q.0) inner in
    record {
      more = r.0;
      was = ap (λ (rest : List Token). Ok (r.0, rest)) (ap (λ (q : (ℕ × Side) × List Token). q.1) both);
      counted = sym counted ∙ zero-add (length r.0);
      grown = sym (ap (λ (q : ℕ × Side). q.1) inner);
    }
sides_read count front names (Err f) after e = absurd cc

abbrev with_arguments : ℕ → Name × List Token → Read Side
with_arguments m name =
    arguments (separated Comma (side_within m) m) name.1 >>= λ args. Ok (record { at = name.0.at; name = name.0.text; arity = length args.0 } ∷ flat_map (λ s. s) args.0, args.1)

-- a name is pushed with no arguments, the arguments are read behind it, and then it is written with their number
pub one_side : (m place count : ℕ) (front pushed names new : Side) (tokens rest after : List Token) (name : Name) (empty : Occurrence)
    → a_name tokens ≡ Ok (name, rest) → place ≡ length front → pushed ≡ front ++ empty ∷ []
    → sides_behind 0 pushed (arguments (separated Comma (side_within m) m) rest) ≡ Ok ((count, names), after)
    → new ≡ set names place (record { at = name.at; name = name.text; arity = count })
    → behind front (side_within (suc m) tokens) ≡ Ok (new, after)
one_side m place count front pushed names new tokens rest after name empty e here push read filled =
    let r = sides_read count pushed names (arguments (separated Comma (side_within m) m) rest) after read in
    let args = flat_map (λ s. s) r.more in
    let o : ℕ → Occurrence = λ k. record { at = name.at; name = name.text; arity = k } in
    let seam : names ≡ front ++ empty ∷ args = r.grown ∙ ap (λ (ns : Side). ns ++ args) push ∙ append_assoc front (empty ∷ []) args in
    let whole : front ++ o (length r.more) ∷ args ≡ new =
    sym (set-append_seam front empty args (o (length r.more)))
    ∙ ap (λ (ns : Side). set ns (length front) (o (length r.more))) (sym seam)
    ∙ ap (λ (k : ℕ). set names k (o (length r.more))) (sym here)
    ∙ ap (λ (k : ℕ). set names place (o k)) (sym r.counted)
    ∙ sym filled in
    ap (λ (q : Read Name). behind front (q >>= with_arguments m)) e
    ∙ ap (λ (q : Read (List Side)). behind front (q >>= λ args. Ok (o (length args.0) ∷ flat_map (λ s. s) args.0, args.1))) r.was
    ∙ ap (λ (ns : Side). Ok (ns, after)) whole
