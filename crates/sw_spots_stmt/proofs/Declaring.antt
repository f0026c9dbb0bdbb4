-- The work of declarations and of patterns stands where their code is.
use Rattle.std.proofs.Common.{◌≡◌, ℕ, ◌+◌, ◌⊎◌, inl, inr, Bool, true, false, None}
use Rattle.std.proofs.Common.{List, [], ◌∷◌, refl, ap, ◌∙◌, subst, arith}
use Rattle.std.specs.Prelude.{Ok, if◌then◌else◌}
use Rattle.sw_tree.specs.declared.stmt.Pattern.{Pattern}
use Rattle.sw_tree.specs.declared.stmt.Pattern.TheVariants.{Skip, Let}
use Rattle.sw_types.specs.declared.ty.Ty.{Ty}
use Rattle.sw_types.specs.declared.ty.Ty.TheVariants as types
use Rattle.sw_graph.specs.declared.function.Function.{Function}
use Rattle.sw_graph.specs.declared.function.RegKind.TheVariants.{Plain, BoxOf}
use Rattle.sw_graph.specs.declared.instr.Instr.TheVariants as instr
use Rattle.sw_graph.specs.declared.instr.Operand.{Operand}
use Rattle.sw_lower_plans.specs.Plan.{Numbers, var_in}
use Rattle.sw_lower_plans.specs.Run.{IsGoing, Making}
use Rattle.sw_lower_code.specs.Code.{Code, bind, done, emit, front, reg, ◌>>=◌, ◌>>◌}
use Rattle.sw_lower_rules.specs.Statements.{boxed_var, declare_var, pattern_code, patterns_code, plain_var}
use Rattle.sw_lower_rules.specs.Tables.{Tables}
use Rattle.sw_lower_rules.specs.Uses.{typed}
use Rattle.sw_lower_run_facts.proofs.Alone.{emit_apart, front_apart}
use Rattle.sw_lower_run_facts.proofs.Runs.{done_ran, ran_both}
use Rattle.sw_lower_run_facts.proofs.Steps.{emitted, fronted, reg_going, reg_ran}
use Rattle.sw_tree_work.specs.Forms.{patterns_work}
use Rattle.sw_tree_work.specs.Work as work
use Rattle.sw_tree_work.specs.Work.{Before, Work}
use Rattle.sw_spots.specs.Doing.{Passes, Reads}
use Rattle.sw_spots.specs.Making.{IsFinal, IsReady, Went, spot_of}
use Rattle.sw_spots.specs.Spots.{IsSeen, Program, Ring, Stands, bound_of, declared}
use Rattle.sw_spots.proofs.Going.{final_first, final_last, went_both, went_none}
use Rattle.sw_spots.proofs.Joining.{fits_between, ran_known}
use Rattle.sw_spots_stmt.proofs.Beginning.{Began, began, gives_began, others_began, ready_began}
use Rattle.sw_spots_stmt.proofs.Beginning.{seen_began}
use Rattle.sw_spots_stmt.proofs.Stating.{seen_both, seen_same}

-- the key of a variable that a pattern declares, or one of some patterns
abbrev pub Binds : Pattern → ℕ → Type 0
Binds (Skip at) key = ⊥
Binds (Let name) key = key ≡ name.at

abbrev pub BindsOne : List Pattern → ℕ → Type 0
BindsOne [] key = ⊥
BindsOne (pattern ∷ patterns) key = Binds pattern key ⊎ BindsOne patterns key

-- no two patterns declare one variable
abbrev pub ArePatternsApart : List Pattern → Type 0
ArePatternsApart [] = Unit {0}
ArePatternsApart (pattern ∷ patterns) =
    ((key : ℕ) → Binds pattern key → BindsOne patterns key → ⊥) × ArePatternsApart patterns

module _ (p : Program) (numbers : Numbers) (tables : Tables) where
  -- a variable gets its first value
  boxed_began : (key : ℕ) (given : Operand) (ty : Ty) (s t : Making) → IsGoing s
      → t.over ≡ false → (boxed_var tables key given ty).run s ≡ Ok (tt, t)
      → Began s key true (λ r. declared key r true given) t
  boxed_began key given ty s t going fits ran =
      let a = ran_both (reg (BoxOf ty)) (λ r. emit (instr.NewBox key r given)
      >> bind (bound_of key r true)) s t tt ran in
      let b = ran_both (emit (instr.NewBox key a.0 given)) (λ one. bind (bound_of key a.0 true)) a.1 t
      tt a.3 in
      began (BoxOf ty) (λ r. declared key r true given) (emit (instr.NewBox key a.0 given)) key true
      a.0 s a.1 b.1 t (λ count own. emit_apart count own (instr.NewBox key a.0 given)) going fits a.2
      b.2
      (λ whole. emitted (instr.NewBox key a.0 given) a.1 b.1 tt
      (reg_going s a.1 a.0 (reg_ran (BoxOf ty) s a.1 a.0 a.2) going) whole b.2) b.3

  plain_began : (key : ℕ) (given : Operand) (ty : Ty) (s t : Making) → IsGoing s
      → t.over ≡ false → (plain_var tables key given ty).run s ≡ Ok (tt, t)
      → Began s key false (λ r. declared key r false given) t
  plain_began key given ty s t going fits ran =
      let a = ran_both (reg (Plain ty)) (λ r. emit (instr.Copy key r given)
      >> bind (bound_of key r false)) s t tt ran in
      let b = ran_both (emit (instr.Copy key a.0 given)) (λ one. bind (bound_of key a.0 false)) a.1 t
      tt a.3 in
      began (Plain ty) (λ r. declared key r false given) (emit (instr.Copy key a.0 given)) key false
      a.0 s a.1 b.1 t (λ count own. emit_apart count own (instr.Copy key a.0 given)) going fits a.2 b.2
      (λ whole. emitted (instr.Copy key a.0 given) a.1 b.1 tt
      (reg_going s a.1 a.0 (reg_ran (Plain ty) s a.1 a.0 a.2) going) whole b.2) b.3

  var_began : (key : ℕ) (given : Operand) (s t : Making) → IsGoing s → t.over ≡ false
      → (declare_var tables key given).run s ≡ Ok (tt, t)
      → Began s key (tables.isolation.is_boxed key)
      (λ r. declared key r (tables.isolation.is_boxed key) given) t
  unfolding declare_var typed
  var_began key given s t going fits ran =
      let a = ran_known types.Unit (tables.answers.type_at key)
      (if tables.isolation.is_boxed key then boxed_var tables key given
      else plain_var tables key given) s t tt ran in
      by (tables.isolation.is_boxed key) a.0 a.2 where
        by : (boxed : Bool) (ty : Ty)
            → ((if boxed then boxed_var tables key given else plain_var tables key given) ty).run s
            ≡ Ok (tt, t) → Began s key boxed (λ r. declared key r boxed given) t
        by true ty ran = boxed_began key given ty s t going fits ran
        by false ty ran = plain_began key given ty s t going fits ran

  pub passes_bind : (key : ℕ) (read : Code Operand) (before : Before)
      → Reads p numbers read before
      → Passes p numbers (λ other. other ≡ key) (λ targets. read >>= declare_var tables key)
      (λ breaks rest. before (work.Then (work.Declare key (tables.isolation.is_boxed key)) rest))
  passes_bind key read before is targets s t ready unseen fits ran =
      let both = ran_both read (declare_var tables key) s t tt ran in
      let given = both.0 in
      let m = both.1 in
      let boxed = tables.isolation.is_boxed key in
      let did = is [] s m given ready
      (fits_between read (declare_var tables key given) s m t given tt ready.going both.2 both.3 fits)
      both.2 in
      let b = var_began key given m t did.ready.going fits both.3 in
      let made = λ (r : ℕ). declared key r boxed given in
      let new : var_in key m.vars ≡ None = ap (var_in key) did.vars ∙ unseen key refl in
      record {
        went = went_both (λ n. n ≡ s.here) s m t did.went b.went;
        ready = ready_began numbers m key boxed made t b (given.reg ∷ []) [] did.ready new tt;
        seen = seen_both s.vars m.vars t.vars (seen_same s.vars m.vars did.vars)
            (seen_began numbers m key boxed made t b);
        others = λ other none. others_began numbers m key boxed made t b other none
            ∙ ap (var_in other) did.vars;
        stands = λ f rings breaks base rest final leads seen stands.
            did.stands f rings (work.Then (work.Declare key boxed) rest)
            (final_first f s m t b.went final) (
              new,
              key,
              (
                given,
                refl,
                gives_began numbers m key boxed made t b p f rings rest
                    (given.reg ∷ []) [] [] did.ready tt (final_last f s m t did.went final) stands,
              ),
            );
      }

  -- Payloads become variables, and the subject stays the newest temporary.
  pub record Taken (Declares : ℕ → Type 0) (s : Making) (subject : ℕ) (before : Before) (t : Making)
      : Type 0 where
    pub went : Went s t
    pub ready : IsReady numbers t (subject ∷ [])
    pub seen : IsSeen s.vars t.vars
    pub others : (key : ℕ) → (Declares key → ⊥) → var_in key t.vars ≡ var_in key s.vars
    pub stands : (f : Function) (rings : List Ring) (rest : Work) → IsFinal f s t
        → Stands p rest f rings (spot_of t (subject ∷ []))
        → Stands p (before rest) f rings (spot_of s (subject ∷ []))

  taken_none : (Declares : ℕ → Type 0) (s t : Making) (subject : ℕ)
      → IsReady numbers s (subject ∷ []) → t.over ≡ false → (done {A = Unit {0}} tt).run s ≡ Ok (tt, t)
      → Taken Declares s subject (λ rest. rest) t
  taken_none Declares s t subject ready fits ran =
      let is = done_ran tt tt s t ran in
      subst (Taken Declares s subject (λ rest. rest)) is.1 (record {
        went = went_none (λ b. b ≡ s.here) s refl ready.going
            (ap (λ (x : Making). x.over) is.1 ∙ fits);
        ready = ready;
        seen = λ key bound found. found;
        others = λ key none. refl;
        stands = λ f rings rest final stands. stands;
      })

  taken_let : (key number : ℕ) (subject : Operand) (ty : Ty) (s t : Making)
      → IsReady numbers s (subject.reg ∷ []) → var_in key s.vars ≡ None → t.over ≡ false
      → (reg (Plain ty) >>= λ r. front (instr.Payload key r subject number)
      >> bind (bound_of key r false)).run s ≡ Ok (tt, t)
      → Taken (λ other. other ≡ key) s subject.reg (work.Then (work.Payload key number)) t
  taken_let key number subject ty s t ready unseen fits ran =
      let made = λ (r : ℕ). instr.Payload key r subject number in
      let a = ran_both (reg (Plain ty)) (λ r. front (made r) >> bind (bound_of key r false)) s t tt ran
      in
      let b = ran_both (front (made a.0)) (λ one. bind (bound_of key a.0 false)) a.1 t tt a.3 in
      let is = began (Plain ty) made (front (made a.0)) key false a.0 s a.1 b.1 t
      (λ count own. front_apart count own (made a.0)) ready.going fits a.2 b.2
      (λ whole. fronted (made a.0) a.1 b.1 tt
      (reg_going s a.1 a.0 (reg_ran (Plain ty) s a.1 a.0 a.2) ready.going) whole b.2) b.3 in
      let regs = is.regs in
      record {
        went = is.went;
        ready = ready_began numbers s key false made t is (subject.reg ∷ []) (subject.reg ∷ []) ready
            unseen ((let less = ready.temporaries.0 in omega (arith, less, regs)), tt);
        seen = seen_began numbers s key false made t is;
        others = others_began numbers s key false made t is;
        stands = λ f rings rest final stands. (
          unseen,
          key,
          (
            subject,
            refl,
            gives_began numbers s key false made t is p f rings rest (subject.reg ∷ [])
                (subject.reg ∷ []) (subject.reg ∷ []) ready ready.temporaries final stands,
          ),
        );
      }

  taken_one : (pattern : Pattern) (number : ℕ) (subject : Operand) (s t : Making)
      → IsReady numbers s (subject.reg ∷ [])
      → ((key : ℕ) → Binds pattern key → var_in key s.vars ≡ None) → t.over ≡ false
      → (pattern_code tables subject number pattern).run s ≡ Ok (tt, t)
      → Taken (Binds pattern) s subject.reg (λ rest. patterns_work number (pattern ∷ []) rest) t
  unfolding typed
  taken_one (Skip at) number subject s t ready unseen fits ran =
      taken_none (Binds (Skip at)) s t subject.reg ready fits ran
  taken_one (Let name) number subject s t ready unseen fits ran =
      let a = ran_known types.Unit (tables.answers.type_at name.at)
      (λ ty. reg (Plain ty) >>= λ r. front (instr.Payload name.at r subject number)
      >> bind (bound_of name.at r false)) s t tt ran in
      taken_let name.at number subject a.0 s t ready (unseen name.at refl) fits a.2

  -- a pattern's work, and after it that of the others
  pattern_first : (pattern : Pattern) (patterns : List Pattern) (number : ℕ) (rest : Work)
      → patterns_work number (pattern ∷ []) (patterns_work (number + 1) patterns rest)
      ≡ patterns_work number (pattern ∷ patterns) rest
  pattern_first (Skip at) patterns number rest = refl
  pattern_first (Let name) patterns number rest = refl

  pub taken : (patterns : List Pattern) (number : ℕ) (subject : Operand) (s t : Making)
      → ArePatternsApart patterns → IsReady numbers s (subject.reg ∷ [])
      → ((key : ℕ) → BindsOne patterns key → var_in key s.vars ≡ None) → t.over ≡ false
      → (patterns_code tables subject number patterns).run s ≡ Ok (tt, t)
      → Taken (BindsOne patterns) s subject.reg (patterns_work number patterns) t
  unfolding patterns_code
  taken [] number subject s t apart ready unseen fits ran =
      taken_none (BindsOne []) s t subject.reg ready fits ran
  taken (pattern ∷ patterns) number subject s t apart ready unseen fits ran =
      let first = pattern_code tables subject number pattern in
      let later = patterns_code tables subject (number + 1) patterns in
      let both = ran_both first (λ one. later) s t tt ran in
      let m = both.1 in
      let a = taken_one pattern number subject s m ready (λ key one. unseen key (inl one))
      (fits_between first later s m t tt tt ready.going both.2 both.3 fits) both.2 in
      let b = taken patterns (number + 1) subject m t apart.1 a.ready
      (λ key one. a.others key (λ other. apart.0 key other one) ∙ unseen key (inr one)) fits both.3 in
      record {
        went = went_both (λ n. n ≡ s.here) s m t a.went b.went;
        ready = b.ready;
        seen = seen_both s.vars m.vars t.vars a.seen b.seen;
        others = λ key none. b.others key (λ one. none (inr one))
            ∙ a.others key (λ one. none (inl one));
        stands = λ f rings rest final stands.
            subst (λ w. Stands p w f rings (spot_of s (subject.reg ∷ [])))
            (pattern_first pattern patterns number rest)
            (a.stands f rings (patterns_work (number + 1) patterns rest)
            (final_first f s m t b.went final)
            (b.stands f rings rest (final_last f s m t a.went final) stands));
      }
