-- Work of code put after code, and of what it looks up.
use Rattle.std.proofs.Common.{◌≡◌, ℕ, suc, Option, Some, None, false}
use Rattle.std.proofs.Common.{List, [], ◌∷◌, ◌++◌, length, map, reverse, take, drop, refl, ap, sym}
use Rattle.std.proofs.Common.{◌∙◌, subst, arith, length-append, append_assoc}
use Rattle.std.proofs.Math.Seq.{take-append_seam, drop-append_seam}
use Rattle.std.proofs.lemmas.List.{length-map, length-reverse, reverse-reverse}
use mathlib.Core.List.{reverse-cons}
use Rattle.std.specs.Prelude.{Ok}
use Rattle.sw_graph.specs.declared.instr.Operand.{Operand}
use Rattle.sw_lower_plans.specs.Plan.{Numbers, var_in}
use Rattle.sw_lower_plans.specs.Run.{IsGoing, Making}
use Rattle.sw_lower_plans.specs.declared.bound.Bound.{Bound}
use Rattle.sw_lower_plans.specs.declared.name.FunctionName.{FunctionName}
use Rattle.sw_lower_code.specs.Code.{Code, andthen, done, each, known, number, var, ◌>>=◌}
use Rattle.sw_lower_run_facts.proofs.Runs.{done_ran, known_ran, made_of, number_ran, ran_both}
use Rattle.sw_lower_run_facts.proofs.Runs.{var_ran}
use Rattle.sw_tree_work.specs.Forms.{for_known, in_order}
use Rattle.sw_tree_work.specs.Work.{Before, Work}
use Rattle.sw_spots.specs.Doing.{At, Did, Does, Reads, ReadsAll, used}
use Rattle.sw_spots.specs.Making.{AreBelow, IsReady}
use Rattle.sw_spots.specs.Spots.{OnMany, Program}
use Rattle.sw_spots.proofs.Going.{final_first, final_last, went_both, went_none}

-- code didn't make too many points, since the code after it didn't
pub fits_between : {A B : Type 0} (first : Code A) (next : Code B) (s m t : Making) (a : A) (b : B)
    → IsGoing s → first.run s ≡ Ok (a, m) → next.run m ≡ Ok (b, t) → t.over ≡ false
    → m.over ≡ false
fits_between first next s m t a b going one two fits =
    (made_of next m t b (made_of first s m a going one).1.there two).1.before fits

-- of so many registers and other temporaries the newest are these
pub many_newest : (rs temps : List ℕ) (count : ℕ) (P : List ℕ → List ℕ → Type 0)
    → length rs ≡ count → P rs temps → OnMany count (reverse rs ++ temps) P
many_newest rs temps count P many is =
    let long : length (reverse rs) ≡ count = length-reverse rs ∙ many in
    let front : take count (reverse rs ++ temps) ≡ reverse rs =
    ap (λ n. take n (reverse rs ++ temps)) (sym long) ∙ take-append_seam (reverse rs) temps in
    let back : drop count (reverse rs ++ temps) ≡ temps =
    ap (λ n. drop n (reverse rs ++ temps)) (sym long) ∙ drop-append_seam (reverse rs) temps in (
      (let more = length-append (reverse rs) temps in omega (arith, more, long)),
      subst (λ list. P (reverse (take count (reverse rs ++ temps))) list) (sym back)
          (subst (λ list. P list temps) (sym (ap reverse front ∙ reverse-reverse rs)) is),
    )

-- of so many operands the registers
pub many_used : (os : List Operand) (temps : List ℕ) (count : ℕ) (P : List ℕ → List ℕ → Type 0)
    → length os ≡ count → P (map (λ (o : Operand). o.reg) os) temps
    → OnMany count (used os ++ temps) P
many_used os temps count P many is =
    many_newest (map (λ (o : Operand). o.reg) os) temps count P
    (length-map os (λ (o : Operand). o.reg) ∙ many) is

pub used_more : (x : Operand) (xs : List Operand) (temps : List ℕ)
    → used (x ∷ xs) ++ temps ≡ used xs ++ x.reg ∷ temps
used_more x xs temps =
    ap (λ list. list ++ temps) (reverse-cons x.reg (map (λ (o : Operand). o.reg) xs))
    ∙ append_assoc (used xs) (x.reg ∷ []) temps

-- the code after what is looked up runs from where the look-up does
pub ran_known : {A B : Type 0} (fallback : A) (found : Option A) (next : A → Code B) (s t : Making)
    (value : B) → (andthen (known fallback found) next).run s ≡ Ok (value, t)
    → (x : A) × (found ≡ Some x) × ((next x).run s ≡ Ok (value, t))
ran_known fallback found next s t value ran =
    let both = ran_both (known fallback found) next s t value ran in
    let here = known_ran fallback found s both.1 both.0 both.2 in
    (both.0, here.0, subst (λ m. (next both.0).run m ≡ Ok (value, t)) (sym here.1) both.3)

pub ran_var : {B : Type 0} (key : ℕ) (next : Bound → Code B) (s t : Making) (value : B)
    → (andthen (var key) next).run s ≡ Ok (value, t)
    → (x : Bound) × (var_in key s.vars ≡ Some x) × ((next x).run s ≡ Ok (value, t))
ran_var key next s t value ran =
    let both = ran_both (var key) next s t value ran in
    let here = var_ran key s both.1 both.0 both.2 in
    (both.0, here.0, subst (λ m. (next both.0).run m ≡ Ok (value, t)) (sym here.1) both.3)

pub ran_number : {B : Type 0} (name : FunctionName) (next : ℕ → Code B) (s t : Making) (value : B)
    → (andthen (number name) next).run s ≡ Ok (value, t)
    → (f : ℕ) × (s.number name ≡ Some f) × ((next f).run s ≡ Ok (value, t))
ran_number name next s t value ran =
    let both = ran_both (number name) next s t value ran in
    let here = number_ran name s both.1 both.0 both.2 in
    (both.0, here.0, subst (λ m. (next both.0).run m ≡ Ok (value, t)) (sym here.1) both.3)

module _ (p : Program) (numbers : Numbers) where
  pub did_both : (s m t : Making) (temps mid after : List ℕ) (one two : Before)
      → Did p numbers s temps one m mid → Did p numbers m mid two t after
      → Did p numbers s temps (λ rest. one (two rest)) t after
  did_both s m t temps mid after one two first second = record {
    went = went_both (λ b. b ≡ s.here) s m t first.went second.went;
    vars = second.vars ∙ first.vars;
    ready = second.ready;
    stands = λ f rings rest final stands.
        first.stands f rings (two rest) (final_first f s m t second.went final)
        (second.stands f rings rest (final_last f s m t first.went final) stands);
  }

  -- nothing is made
  pub did_none : (s : Making) (temps : List ℕ) → IsReady numbers s temps → s.over ≡ false
      → Did p numbers s temps (λ rest. rest) s temps
  did_none s temps ready fits = record {
    went = went_none (λ b. b ≡ s.here) s refl ready.going fits;
    vars = refl;
    ready = ready;
    stands = λ f rings rest final stands. stands;
  }

  -- what code did before and after something that made nothing
  pub did_at : (s t u : Making) (temps after others : List ℕ) (before : Before) → t ≡ u
      → after ≡ others → Did p numbers s temps before t after → Did p numbers s temps before u others
  did_at s t u temps after others before same regs did =
      subst (Did p numbers s temps before u) regs
      (subst (λ x. Did p numbers s temps before x after) same did)

  pub does_done : {A : Type 0} (temps : List ℕ) (value : A) (after : A → List ℕ)
      → ((s : Making) → IsReady numbers s temps → AreBelow (length s.made.regs) (after value))
      → ((s : Making) → after value ≡ temps)
      → Does p numbers temps (done value) (λ rest. rest) after
  does_done temps value after below same s t given ready fits ran =
      let is = done_ran value given s t ran in
      did_at s s t temps temps (after given) (λ rest. rest) is.1 (sym (same s) ∙ ap after is.0)
      (did_none s temps ready (ap (λ (x : Making). x.over) is.1 ∙ fits))

  pub does_then : {A B : Type 0} (temps : List ℕ) (first : Code A) (next : A → Code B)
      (one two : Before) (mid : A → List ℕ) (after : B → List ℕ)
      → Does p numbers temps first one mid
      → ((x : A) → Does p numbers (mid x) (next x) two after)
      → Does p numbers temps (andthen first next) (λ rest. one (two rest)) after
  does_then temps first next one two mid after is later s t value ready fits ran =
      let both = ran_both first next s t value ran in
      let here = is s both.1 both.0 ready
      (fits_between first (next both.0) s both.1 t both.0 value ready.going both.2 both.3 fits)
      both.2 in
      did_both s both.1 t temps (mid both.0) (after value) one two here
      (later both.0 both.1 t value here.ready fits both.3)

  -- what is looked up is known
  pub does_known : {A B : Type 0} (temps : List ℕ) (fallback : A) (found : Option A)
      (next : A → Code B) (before : Before) (after : B → List ℕ)
      → ((x : A) → found ≡ Some x → Does p numbers temps (next x) before after)
      → Does p numbers temps (andthen (known fallback found) next) before after
  does_known temps fallback found next before after is s t value ready fits ran =
      let here = ran_known fallback found next s t value ran in
      is here.0 here.1 s t value ready fits here.2

  pub does_number : {B : Type 0} (temps : List ℕ) (name : FunctionName) (next : ℕ → Code B)
      (before : Before) (after : B → List ℕ)
      → ((f : ℕ) → numbers name ≡ Some f → Does p numbers temps (next f) before after)
      → Does p numbers temps (andthen (number name) next) before after
  does_number temps name next before after is s t value ready fits ran =
      let here = ran_number name next s t value ran in
      is here.0 (ap (λ (all : Numbers). all name) (sym ready.number) ∙ here.1) s t value ready fits
      here.2

  -- code that nothing meets: what it looks up isn't known
  pub does_never : {A : Type 0} (temps : List ℕ) (fallback : A) (before : Before)
      (after : A → List ℕ) → Does p numbers temps (known fallback None) before after
  does_never temps fallback before after s t value ready fits ran =
      let here = known_ran fallback None s t value ran in
      absurd (let c : ⊥ = (let wrong = here.0 in cc) in c)

  pub does_for_known : {A B : Type 0} (temps : List ℕ) (fallback : A) (found : Option A)
      (next : A → Code B) (work : A → Before) (after : B → List ℕ)
      → ((x : A) → found ≡ Some x → Does p numbers temps (next x) (work x) after)
      → Does p numbers temps (andthen (known fallback found) next) (for_known found work) after
  does_for_known {A} temps fallback None next work after is = λ s t value ready fits ran.
      let here = ran_known fallback None next s t value ran in
      absurd (let c : ⊥ = (let wrong = here.1 in cc) in c)
  does_for_known {A} temps fallback (Some x) next work after is =
      does_known temps fallback (Some x) next (work x) after (λ y same.
      subst (λ z. Does p numbers temps (next z) (work x) after) (some same) (is x refl)) where
        some : {y : A} → Some x ≡ Some y → x ≡ y
        some same = cc

  -- work that is written otherwise
  pub does_as : {A : Type 0} (temps : List ℕ) (code : Code A) (one other : Before)
      (after : A → List ℕ) → ((rest : Work) → one rest ≡ other rest)
      → Does p numbers temps code one after → Does p numbers temps code other after
  does_as temps code one other after same is s t value ready fits ran =
      let here = is s t value ready fits ran in
      record {
        went = here.went;
        vars = here.vars;
        ready = here.ready;
        stands = λ f rings rest final stands.
            subst (λ w. At p numbers w f rings s temps) (same rest)
            (here.stands f rings rest final stands);
      }

  -- many values, each after the other
  pub reads_none : ReadsAll p numbers (done []) (λ rest. rest)
  reads_none temps =
      does_done temps [] (λ os. used os ++ temps) (λ s ready. ready.temporaries) (λ s. refl)

  pub reads_more : (read : Code Operand) (more : Code (List Operand)) (one two : Before)
      → Reads p numbers read one → ReadsAll p numbers more two
      → ReadsAll p numbers (read >>= λ y. more >>= λ ys. done (y ∷ ys)) (λ rest. one (two rest))
  reads_more read more one two is are temps =
      does_then temps read (λ y. more >>= λ ys. done (y ∷ ys)) one two (λ o. o.reg ∷ temps)
      (λ os. used os ++ temps) (is temps)
      (λ y. does_then (y.reg ∷ temps) more (λ ys. done (y ∷ ys)) two (λ rest. rest)
      (λ ys. used ys ++ y.reg ∷ temps) (λ os. used os ++ temps) (are (y.reg ∷ temps))
      (λ ys. does_done (used ys ++ y.reg ∷ temps) (y ∷ ys) (λ os. used os ++ temps)
      (λ s ready. subst (AreBelow (length s.made.regs)) (sym (used_more y ys temps)) ready.temporaries)
      (λ s. used_more y ys temps)))

  -- the code of each part, and its work
  abbrev pub AllRead : {A : Type 0} → (A → Code Operand) → List A → List Before → Type 0
  AllRead read [] [] = Unit {0}
  AllRead read (x ∷ xs) (one ∷ works) = Reads p numbers (read x) one × AllRead read xs works
  AllRead read _ _ = ⊥

  pub reads_all : {A : Type 0} (read : A → Code Operand) (xs : List A) (works : List Before)
      → AllRead read xs works → ReadsAll p numbers (each read xs) (in_order (λ work. work) works)
  unfolding each
  reads_all read [] [] are = reads_none
  reads_all read (x ∷ xs) (one ∷ works) are =
      reads_more (read x) (each read xs) one (in_order (λ work. work) works) are.0
      (reads_all read xs works are.1)
  reads_all read [] (one ∷ works) are = absurd are
  reads_all read (x ∷ xs) [] are = absurd are

-- as many values are given as there are parts
pub each_count : {A B : Type 0} (code : A → Code B) (xs : List A) (s t : Making) (ys : List B)
    → (each code xs).run s ≡ Ok (ys, t) → length ys ≡ length xs
unfolding each
each_count code [] s t ys ran = ap length (sym (done_ran [] ys s t ran).0)
each_count code (x ∷ xs) s t ys ran =
    let a = ran_both (code x) (λ y. each code xs >>= λ ys. done (y ∷ ys)) s t ys ran in
    let b = ran_both (each code xs) (λ ys. done (a.0 ∷ ys)) a.1 t ys a.3 in
    ap length (sym (done_ran (a.0 ∷ b.0) ys b.1 t b.3).0)
    ∙ ap (λ n. suc n) (each_count code xs a.1 b.1 b.0 b.2)
