-- The words ask for one command at most, and what they don't ask for, by what was taken of them.
use Rattle.std.proofs.Common.{◌≡◌, ◌≤◌, ◌∙◌, sym, ap, refl, subst, ℕ, List, ◌∷◌, arith}
use Rattle.std.specs.Prelude.{Option, Some, None, IfSome, String, codes}
use Rattle.std.specs.declared.alloc.Global.{Global}
use Rattle.std.specs.Str.Parse.{digits_value}
use Rattle.sc_worker.specs.declared.plan.Plan.{Plan}
use Rattle.sc_top_words.specs.declared.commands.Command.{Command}
use Rattle.sc_top_words.specs.declared.commands.Command.TheVariants.{Check, Prove, Model, Bench}
use Rattle.sc_top_words.specs.declared.options.OptionName.{OptionName}
use Rattle.sc_top_words.specs.declared.options.OptionName.TheVariants.{Finders, Size, Upto, Nodes, Candidates, Workers}
use Rattle.sc_top_words.specs.declared.taking.Taken.{Taken}
use Rattle.sc_top_words.specs.Options.{Given, row_of, values_of, IsChoice, IsKept}
use Rattle.sc_top_words.specs.Words.{word_of, AskForPlan, AskForModel, AskForRungs, AskFor, Asks, IsModelSearch}
use Rattle.sc_top_words.specs.Taking.{kept_for, AreTaken, FitValues, AreFit, IsIn, AreInRange, chosen_for, AreInOrder}
use Rattle.sc_top_words.specs.Reading.{IsAskedBy}
use Rattle.sc_top_words.proofs.OptionLaws.{first_of, first_word, other_words, options_are_one, chosen_fits, none_fits, chosen_is_one, kept_number, kept_fits, kept_is_one, is_given, chosen_in_range}

-- ---- one command

choice_is_one : (name : OptionName) (os ps : List Given) (m n : ℕ) → os ≡ ps → IsChoice os name m → IsChoice ps name n → m ≡ n
choice_is_one name os ps m n e h k =
    chosen_is_one (row_of name) m n (values_of name os) h (subst (λ (qs : List Given). IsChoice qs name n) (sym e) k)

last_is_one : (os ps : List Given) (u x : Option ℕ) → os ≡ ps → IsKept (row_of Upto) u (values_of Upto os) → IsKept (row_of Upto) x (values_of Upto ps) → u ≡ x
last_is_one os ps u x e h k =
    kept_is_one (row_of Upto) u x (values_of Upto os) h (subst (λ (qs : List Given). IsKept (row_of Upto) x (values_of Upto qs)) (sym e) k)

one_plan : (words : List (List ℕ)) (p q : Plan) → AskForPlan words p → AskForPlan words q → p ≡ q
one_plan words p q h k =
    let e = options_are_one words h.options k.options h.spelled k.spelled in
    let finders = choice_is_one Finders h.options k.options p.finders q.finders e h.finders k.finders in
    let size = choice_is_one Size h.options k.options p.first_size q.first_size e h.first_size k.first_size in
    let nodes = choice_is_one Nodes h.options k.options p.nodes q.nodes e h.nodes k.nodes in
    let candidates = choice_is_one Candidates h.options k.options p.candidates q.candidates e h.candidates k.candidates in
    λ i. record { finders = finders i; first_size = size i; nodes = nodes i; candidates = candidates i }

one_model : (words : List (List ℕ)) (s t : ℕ) (u x : Option ℕ) (m n w v : ℕ) → AskForModel words s u m w → AskForModel words t x n v → Model s u m w ≡ Model t x n v
one_model words s t u x m n w v h k =
    let e = options_are_one words h.options k.options h.spelled k.spelled in
    let size = choice_is_one Size h.options k.options s t e h.is_size k.is_size in
    let upto = last_is_one h.options k.options u x e h.is_last k.is_last in
    let nodes = choice_is_one Nodes h.options k.options m n e h.is_budget k.is_budget in
    let workers = choice_is_one Workers h.options k.options w v e h.are_workers k.are_workers in
    λ i. Model (size i) (upto i) (nodes i) (workers i)

one_count : (words : List (List ℕ)) (m n : ℕ) → AskForRungs words m → AskForRungs words n → m ≡ n
one_count words m n h k = h.2.spelled ∙ ap (digits_value 10) (ap first_word (sym h.1 ∙ k.1)) ∙ sym k.2.spelled

-- the commands have one word, and the same words behind it
one_behind : (words : List (List ℕ)) (c d : Command) → first_of (word_of c) ≡ first_of (word_of d) → AskFor words c → AskFor words d → c ≡ d
one_behind words Check Check e h k = refl
one_behind words (Prove p) (Prove q) e h k = ap Prove (one_plan words p q h k)
one_behind words (Model s u m w) (Model t x n v) e h k = one_model words s t u x m n w v h k
one_behind words (Bench m) (Bench n) e h k = ap Bench (one_count words m n h k)
one_behind words c d e h k = absurd (omega (arith, e))

pub one_command : (words : List (String Global)) (c d : Command) → Asks words c → Asks words d → c ≡ d
one_command words c d h k =
    let e : word_of c ∷ h.0 ≡ word_of d ∷ k.0 = sym h.1 ∙ k.1 in
    one_behind h.0 c d (ap (λ (ws : List (List ℕ)). first_of (first_word ws)) e) h.2 (subst (λ (ws : List (List ℕ)). AskFor ws d) (sym (ap other_words e)) k.2)

-- ---- what isn't asked for

not_prove : (words : List (List ℕ)) → ((plan : Plan) → ¬ AskForPlan words plan) → (c : Command) → ¬ IsAskedBy (codes "prove") words c
not_prove words none (Prove plan) h = none plan h.1
not_prove words none c h = let e : 112 ≡ first_of (word_of c) = ap first_of h.0 in omega (arith, e)

not_model : (words : List (List ℕ)) → ((s : ℕ) (u : Option ℕ) (n w : ℕ) → ¬ AskForModel words s u n w) → (c : Command) → ¬ IsAskedBy (codes "model") words c
not_model words none (Model s u n w) h = none s u n w h.1
not_model words none c h = let e : 109 ≡ first_of (word_of c) = ap first_of h.0 in omega (arith, e)

-- ---- by what was taken

plan_fits : (words : List (List ℕ)) (plan : Plan) → AskForPlan words plan → AreFit words
plan_fits words plan h = record { options = h.options; spelled = h.spelled; fit = fit }
  where
    fit : (name : OptionName) → FitValues (row_of name) (values_of name h.options)
    fit Finders = chosen_fits (row_of Finders) plan.finders (values_of Finders h.options) h.finders
    fit Size = chosen_fits (row_of Size) plan.first_size (values_of Size h.options) h.first_size
    fit Upto = none_fits (row_of Upto) (values_of Upto h.options) h.no_upto
    fit Nodes = chosen_fits (row_of Nodes) plan.nodes (values_of Nodes h.options) h.nodes
    fit Candidates = chosen_fits (row_of Candidates) plan.candidates (values_of Candidates h.options) h.candidates
    fit Workers = none_fits (row_of Workers) (values_of Workers h.options) h.no_workers

model_fits : (words : List (List ℕ)) (s : ℕ) (u : Option ℕ) (n w : ℕ) → AskForModel words s u n w → AreFit words
model_fits words s u n w h = record { options = h.options; spelled = h.spelled; fit = fit }
  where
    fit : (name : OptionName) → FitValues (row_of name) (values_of name h.options)
    fit Finders = none_fits (row_of Finders) (values_of Finders h.options) h.no_finders
    fit Size = chosen_fits (row_of Size) s (values_of Size h.options) h.is_size
    fit Upto = kept_fits (row_of Upto) u (values_of Upto h.options) h.is_last
    fit Nodes = chosen_fits (row_of Nodes) n (values_of Nodes h.options) h.is_budget
    fit Candidates = none_fits (row_of Candidates) (values_of Candidates h.options) h.no_candidates
    fit Workers = chosen_fits (row_of Workers) w (values_of Workers h.options) h.are_workers

pub unfit_prove : (words : List (List ℕ)) → ¬ AreFit words → (c : Command) → ¬ IsAskedBy (codes "prove") words c
unfit_prove words unfit = not_prove words (λ plan h. unfit (plan_fits words plan h))

pub unfit_model : (words : List (List ℕ)) → ¬ AreFit words → (c : Command) → ¬ IsAskedBy (codes "model") words c
unfit_model words unfit = not_model words (λ s u n w h. unfit (model_fits words s u n w h))

pub workers_given : (words : List (List ℕ)) (taken : Taken) (n : ℕ) → AreTaken words taken → taken.workers ≡ Some n → (c : Command) → ¬ IsAskedBy (codes "prove") words c
workers_given words taken n t e = not_prove words (λ plan h. is_given words taken Workers n h.options t e h.spelled h.no_workers)

pub upto_given : (words : List (List ℕ)) (taken : Taken) (n : ℕ) → AreTaken words taken → taken.upto ≡ Some n → (c : Command) → ¬ IsAskedBy (codes "prove") words c
upto_given words taken n t e = not_prove words (λ plan h. is_given words taken Upto n h.options t e h.spelled h.no_upto)

pub finders_given : (words : List (List ℕ)) (taken : Taken) (n : ℕ) → AreTaken words taken → taken.finders ≡ Some n → (c : Command) → ¬ IsAskedBy (codes "model") words c
finders_given words taken n t e = not_model words (λ s u m w h. is_given words taken Finders n h.options t e h.spelled h.no_finders)

pub candidates_given : (words : List (List ℕ)) (taken : Taken) (n : ℕ) → AreTaken words taken → taken.candidates ≡ Some n → (c : Command) → ¬ IsAskedBy (codes "model") words c
candidates_given words taken n t e = not_model words (λ s u m w h. is_given words taken Candidates n h.options t e h.spelled h.no_candidates)

-- ---- the search that is asked for, by what was taken

chosen_taken : (name : OptionName) (words : List (List ℕ)) (taken : Taken) (t : AreTaken words taken) → IsChoice t.options name (chosen_for name taken)
chosen_taken name words taken t = kept_number (row_of name) (kept_for name taken) (values_of name t.options) (t.kept name)

-- whatever search is asked for, its sizes are those that were taken
order_asked : (words : List (List ℕ)) (taken : Taken) (s : ℕ) (u : Option ℕ) (n w : ℕ) → AreTaken words taken → AskForModel words s u n w → AreInOrder taken
order_asked words taken s u n w t h =
    let e : h.options ≡ t.options = options_are_one words h.options t.options h.spelled t.spelled in
    let size : s ≡ chosen_for Size taken = choice_is_one Size h.options t.options s (chosen_for Size taken) e h.is_size (chosen_taken Size words taken t) in
    let upto : u ≡ taken.upto = last_is_one h.options t.options u taken.upto e h.is_last (t.kept Upto) in
    subst (λ (kept : Option ℕ). IfSome kept (λ (last : ℕ). chosen_for Size taken ≤ last)) upto
    (subst (λ (first : ℕ). IfSome u (λ (last : ℕ). first ≤ last)) size h.not_below)

pub out_of_order : (words : List (List ℕ)) (taken : Taken) → AreTaken words taken → ¬ AreInOrder taken → (c : Command) → ¬ IsAskedBy (codes "model") words c
out_of_order words taken t disorder = not_model words (λ s u n w h. disorder (order_asked words taken s u n w t h))

small_last : (kept : Option ℕ) → IfSome kept (IsIn (row_of Upto)) → IfSome kept (λ (last : ℕ). last ≤ 8)
small_last None within = tt
small_last (Some last) within = within.1

pub is_search : (taken : Taken) → AreInRange taken → AreInOrder taken → IsModelSearch (chosen_for Size taken) taken.upto (chosen_for Nodes taken) (chosen_for Workers taken)
is_search taken within order =
    let size = chosen_in_range Size taken within in
    let nodes = chosen_in_range Nodes taken within in
    let workers = chosen_in_range Workers taken within in
    record {
      some_size = size.0;
      small = size.1;
      not_below = order;
      greatest_small = small_last taken.upto (within Upto);
      some_nodes = nodes.0;
      few_nodes = nodes.1;
      some_workers = workers.0;
      few_workers = workers.1;
    }
