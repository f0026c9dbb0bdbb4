-- The work of initialisers, of getters and of first values stands where their code begins.
use Rattle.std.proofs.Common.{◌≡◌, ℕ, Bool, true, false, Some, None, List, [], ◌∷◌}
use Rattle.std.proofs.Common.{◌++◌, length, map, reverse, refl, ap, sym, ◌∙◌, subst, append_assoc}
use Rattle.std.proofs.lemmas.List.{length-map}
use mathlib.Core.List.{reverse-cons}
use Rattle.std.specs.Prelude.{Ok, ◌==◌, if◌then◌else◌}
use Rattle.sw_types.specs.declared.shape.Part.{Part}
use Rattle.sw_types.specs.declared.shape.Shape.{Shape}
use Rattle.sw_types.specs.declared.ty.Ty.{Ty}
use Rattle.sw_types.specs.declared.ty.Ty.TheVariants as types
use Rattle.sw_graph.specs.declared.function.Function.{Function}
use Rattle.sw_graph.specs.declared.instr.Instr.TheVariants as instr
use Rattle.sw_graph.specs.declared.instr.Last.TheVariants as last
use Rattle.sw_graph.specs.declared.instr.Operand.{Operand}
use Rattle.sw_lower_plans.specs.Plan.{Numbers, var_in}
use Rattle.sw_lower_plans.specs.Run.{Making, run_after}
use Rattle.sw_lower_code.specs.Code.{Code, andthen, close, done, each, emit, known, ◌>>=◌, ◌>>◌}
use Rattle.sw_lower_rules.specs.Bodies.{GivenValue, first_code, getter_code, give_value, init_code}
use Rattle.sw_lower_rules.specs.Bodies.{made_instr, part_read, stored_read, value_of}
use Rattle.sw_lower_rules.specs.Carriers.{Given}
use Rattle.sw_lower_rules.specs.Tables.{Tables}
use Rattle.sw_lower_rules.specs.Uses.{give, no_operand, operand}
use Rattle.sw_lower_run_facts.proofs.Runs.{done_ran, known_ran, ran_both}
use Rattle.sw_lower_run_facts.proofs.Steps.{close_ran}
use Rattle.sw_tree_work.specs.Bodies.{init_work}
use Rattle.sw_tree_work.specs.Forms as works
use Rattle.sw_tree_work.specs.Forms.{in_order}
use Rattle.sw_tree_work.specs.Work as work
use Rattle.sw_tree_work.specs.Work.{Before, Work}
use Rattle.sw_spots.specs.Doing.{Did, Reads}
use Rattle.sw_spots.specs.Forms.{GivesStand, program}
use Rattle.sw_spots.specs.Making.{IsReady, spot_of}
use Rattle.sw_spots.specs.Spots.{AreParts, NewAt, Program, Stands, bound_of, reg_given}
use Rattle.sw_spots.proofs.Going.{below_rest}
use Rattle.sw_spots.proofs.Joining.{did_at, did_both, does_done, fits_between, many_newest}
use Rattle.sw_spots.proofs.Writing.{did_emit, did_give, does_give}
use Rattle.sw_spots_body.proofs.Ending.{Ends, closed_did, closes, ends_value}

-- a run of the first and one of the second are one of both
then_ran : {A B : Type 0} (first : Code A) (next : A → Code B) (s m t : Making) (a : A) (b : B)
    → first.run s ≡ Ok (a, m) → (next a).run m ≡ Ok (b, t) → (andthen first next).run s ≡ Ok (b, t)
unfolding andthen
then_ran first next s m t a b one two =
    ap (λ result. run_after result (λ value. (next value).run)) one ∙ two

-- the registers of values that properties got, and the names of those properties
abbrev regs_of : List GivenValue → List ℕ
regs_of values = map (λ (one : GivenValue). one.value.reg) values

abbrev names_of : List GivenValue → List ℕ
names_of values = map (λ (one : GivenValue). one.name) values

abbrev part_code : List GivenValue → Part → Code Operand
part_code values part = known no_operand (value_of values part.name)

-- a property's value is in its register
in_register : (values : List GivenValue) (name : ℕ) (o : Operand) → value_of values name ≡ Some o
    → reg_given (names_of values) (regs_of values) name ≡ Some o.reg
in_register [] name o is = cc
in_register (one ∷ more) name o is = by (one.name == name) (in_register more name o) is where
  by : (same : Bool)
      → (value_of more name ≡ Some o
      → reg_given (names_of more) (regs_of more) name ≡ Some o.reg)
      → (if same then Some one.value else value_of more name) ≡ Some o
      → (if same then Some one.value.reg else reg_given (names_of more) (regs_of more) name)
      ≡ Some o.reg
  by true later is = let same : one.value ≡ o = cc in ap (λ (x : Operand). Some x.reg) same
  by false later is = later is

parts_ran : (values : List GivenValue) (parts : List Part) (s t : Making) (os : List Operand)
    → (each (part_code values) parts).run s ≡ Ok (os, t)
    → (s ≡ t) × AreParts (names_of values) (regs_of values) parts os
unfolding each
parts_ran values [] s t os ran =
    let is = done_ran [] os s t ran in
    (is.1, subst (AreParts (names_of values) (regs_of values) []) is.0 tt)
parts_ran values (part ∷ parts) s t os ran =
    let a = ran_both (part_code values part)
    (λ y. each (part_code values) parts >>= λ ys. done (y ∷ ys)) s t os ran in
    let b = ran_both (each (part_code values) parts) (λ ys. done (a.0 ∷ ys)) a.1 t os a.3 in
    let is = done_ran (a.0 ∷ b.0) os b.1 t b.3 in
    let one = known_ran no_operand (value_of values part.name) s a.1 a.0 a.2 in
    let more = parts_ran values parts a.1 b.1 b.0 b.2 in (
      one.1 ∙ more.0 ∙ is.1,
      subst (AreParts (names_of values) (regs_of values) (part ∷ parts)) is.0
          (in_register values part.name a.0 one.0, more.1),
    )

module _ (tables : Tables) (numbers : Numbers) (functions : List Function) where
  abbrev p : Program
  p = program tables numbers functions

  abbrev given_works : List works.Given → Before
  given_works ones = in_order (λ (one : works.Given). one.read) ones

  -- the values, and the names of what they are given to
  record Gave (ones : List works.Given) (s : Making) (temps : List ℕ) (values : List GivenValue)
      (t : Making) : Type 0 where
    pub did : Did p numbers s temps (given_works ones) t (reverse (regs_of values) ++ temps)
    pub names : names_of values ≡ map (λ (one : works.Given). one.name) ones

  gave : (givens : List Given) (ones : List works.Given) → GivesStand tables numbers functions givens ones → (temps : List ℕ)
      (s t : Making) (values : List GivenValue) → IsReady numbers s temps → t.over ≡ false
      → (each give_value givens).run s ≡ Ok (values, t) → Gave ones s temps values t
  unfolding each
  gave [] [] are temps s t values ready fits ran =
      let is = done_ran [] values s t ran in
      record {
        did = does_done p numbers temps [] (λ values. reverse (regs_of values) ++ temps)
            (λ s ready. ready.temporaries) (λ s. refl) s t values ready fits ran;
        names = ap names_of (sym is.0);
      }
  gave (given ∷ givens) (one ∷ ones) are temps s t values ready fits ran =
      let a = ran_both (give_value given)
      (λ y. each give_value givens >>= λ ys. done (y ∷ ys)) s t values ran in
      let b = ran_both (each give_value givens) (λ ys. done (a.0 ∷ ys)) a.1 t values a.3 in
      let is = done_ran (a.0 ∷ b.0) values b.1 t b.3 in
      let c = ran_both given.read (λ value. done (record { name = given.name; value = value })) s a.1
      a.0 a.2 in
      let new = done_ran (record { name = given.name; value = c.0 }) a.0 c.1 a.1 c.3 in
      let rest_code = each give_value givens in
      let fits_b : b.1.over ≡ false = ap (λ (x : Making). x.over) is.1 ∙ fits in
      let fits_a = fits_between (give_value given) rest_code s a.1 b.1 a.0 b.0 ready.going a.2 b.2 fits_b
      in
      let first = did_at p numbers s c.1 a.1 temps (c.0.reg ∷ temps) (a.0.value.reg ∷ temps) one.read
      new.1 (ap (λ (x : GivenValue). x.value.reg ∷ temps) new.0)
      (are.1 temps s c.1 c.0 ready (ap (λ (x : Making). x.over) new.1 ∙ fits_a) c.2) in
      let later = gave givens ones are.2 (a.0.value.reg ∷ temps) a.1 b.1 b.0 first.ready fits_b b.2 in
      let all = did_both p numbers s a.1 b.1 temps (a.0.value.reg ∷ temps)
      (reverse (regs_of b.0) ++ a.0.value.reg ∷ temps) one.read (given_works ones) first later.did in
      record {
        did = did_at p numbers s b.1 t temps (reverse (regs_of b.0) ++ a.0.value.reg ∷ temps)
            (reverse (regs_of values) ++ temps) (given_works (one ∷ ones)) is.1
            (sym (append_assoc (reverse (regs_of b.0)) (a.0.value.reg ∷ []) temps)
            ∙ ap (λ list. list ++ temps) (sym (reverse-cons a.0.value.reg (regs_of b.0)))
            ∙ ap (λ list. reverse (regs_of list) ++ temps) is.0) all;
        names = ap names_of (sym is.0)
            ∙ ap (λ name. name ∷ names_of b.0)
            (ap (λ (x : GivenValue). x.name) (sym new.0) ∙ are.0)
            ∙ ap (λ names. one.name ∷ names) later.names;
      }
  gave [] (one ∷ ones) are temps s t values ready fits ran = absurd are
  gave (given ∷ givens) [] are temps s t values ready fits ran = absurd are

  -- An initialiser makes its object of the values.
  abbrev made_code : ℕ → ℕ → Shape → List Given → Code Operand
  made_code key number shape givens = each give_value givens
      >>= λ values. each (part_code values) shape.parts
      >>= λ os. give key (types.Named number) (λ r. made_instr shape.kind key r number os)

  reads_made : (key number : ℕ) (shape : Shape) (givens : List Given) (ones : List works.Given)
      → GivesStand tables numbers functions givens ones → Reads p numbers (made_code key number shape givens)
      (λ rest. given_works ones
      (work.Then (work.New number shape (map (λ (one : works.Given). one.name) ones)) rest))
  reads_made key number shape givens ones are temps s t o ready fits ran =
      let makes = λ (os : List Operand).
      give key (types.Named number) (λ r. made_instr shape.kind key r number os) in
      let a = ran_both (each give_value givens)
      (λ values. each (part_code values) shape.parts >>= makes) s t o ran in
      let values = a.0 in
      let m = a.1 in
      let b = ran_both (each (part_code values) shape.parts) makes m t o a.3 in
      let parts = parts_ran values shape.parts m b.1 b.0 b.2 in
      let first = gave givens ones are temps s m values ready
      (fits_between (each give_value givens) (each (part_code values) shape.parts >>= makes) s m t values
      o ready.going a.2 a.3 fits) a.2 in
      let names = map (λ (one : works.Given). one.name) ones in
      let rs = regs_of values in
      let os = b.0 in
      did_both p numbers s m t temps (reverse rs ++ temps) (o.reg ∷ temps) (given_works ones)
      (work.Then (work.New number shape names)) first.did
      (did_give p numbers m t (reverse rs ++ temps) temps key (types.Named number)
      (λ r. made_instr shape.kind key r number os) o (work.Then (work.New number shape names))
      (λ n all. below_rest n (reverse rs) temps all)
      (λ f rings rest gives. many_newest rs temps (length names)
      (NewAt number shape names f (spot_of m (reverse rs ++ temps))
      (λ next. Stands p rest f rings next))
      (length-map values (λ (one : GivenValue). one.value.reg)
      ∙ sym (length-map values (λ (one : GivenValue). one.name)) ∙ ap length first.names)
      (key, os, subst (λ all. AreParts all rs shape.parts os) first.names parts.1, gives))
      first.did.ready fits
      (subst (λ u. (makes os).run u ≡ Ok (o, t)) (sym parts.0) b.3))

  pub ends_init : (Holds : Making → Type 0) (key number : ℕ) (shape : Shape) (givens : List Given)
      (ones : List works.Given) → GivesStand tables numbers functions givens ones
      → Ends p numbers Holds (init_code key number shape givens) (init_work shape ones number)
  unfolding init_code
  ends_init Holds key number shape givens ones are s t ready holds fits ran f has =
      let end = λ (made : Operand). close (last.Return (Some made)) in
      let makes = λ (os : List Operand).
      give key (types.Named number) (λ r. made_instr shape.kind key r number os) in
      let parts = λ (values : List GivenValue). each (part_code values) shape.parts in
      let a = ran_both (each give_value givens) (λ values. parts values >>= λ os. makes os >>= end) s t tt
      ran in
      let b = ran_both (parts a.0) (λ os. makes os >>= end) a.1 t tt a.3 in
      let c = ran_both (makes b.0) end b.1 t tt b.3 in
      let whole = then_ran (each give_value givens) (λ values. parts values >>= makes) s a.1 c.1 a.0 c.0
      a.2 (then_ran (parts a.0) makes a.1 b.1 c.1 b.0 c.0 b.2 c.2) in
      let code = made_code key number shape givens in
      closed_did p numbers s c.1 t c.0 _ (reads_made key number shape givens ones are [] s c.1 c.0 ready
      (fits_between code (end c.0) s c.1 t c.0 tt ready.going whole c.3 fits) whole) c.3 f has

  -- a getter gives the property of `self`, which is in the first register
  abbrev pub HasSelf : ℕ → Making → Type 0
  HasSelf key s = var_in key s.vars ≡ Some (bound_of key 0 false)

  pub ends_part : (key number index : ℕ) (ty : Ty)
      → Ends p numbers (HasSelf number) (getter_code (part_read key index ty))
      (work.Then (work.Read number) (work.Then (work.LoadPart index) work.Return))
  ends_part key number index ty s t ready self fits ran f has =
      let read = part_read key index ty in
      let a = ran_both read (λ value. close (last.Return (Some value))) s t tt ran in
      let whole = λ (rest : Work). work.Then (work.Read number) (work.Then (work.LoadPart index) rest) in
      closed_did p numbers s a.1 t a.0 whole
      (did_give p numbers s a.1 [] [] key ty (λ r. instr.LoadProp key r (operand 0 key) index) a.0 whole
      (λ n all. all)
      (λ f rings rest gives. (
        bound_of number 0 false,
        self,
        (
          key,
          (
            operand 0 key,
            refl,
            record {
              r = gives.r;
              free = gives.free;
              is = gives.is;
              next = gives.next;
            },
          ),
        ),
      )) ready
      (fits_between read (close (last.Return (Some a.0))) s a.1 t a.0 tt ready.going a.2 a.3 fits) a.2)
      a.3 f has

  pub ends_global : (Holds : Making → Type 0) (key index : ℕ) (ty : Ty)
      → Ends p numbers Holds (getter_code (stored_read key index ty))
      (work.Then (work.LoadGlobal index) work.Return)
  ends_global Holds key index ty =
      ends_value p numbers Holds (stored_read key index ty) (work.Then (work.LoadGlobal index))
      (λ temps. does_give p numbers temps temps key ty (λ r. instr.LoadGlobal key r index)
      (work.Then (work.LoadGlobal index)) (λ n all. all)
      (λ f rings rest s gives. (key, gives)))

  -- a global variable gets its first value
  pub ends_first : (Holds : Making → Type 0) (key index : ℕ) (read : Code Operand) (before : Before)
      → Reads p numbers read before
      → Ends p numbers Holds (first_code key index read)
      (before (work.Then (work.StoreGlobal index) work.Finish))
  ends_first Holds key index read before is s t ready holds fits ran f has =
      let how = last.Return None in
      let a = ran_both read (λ given. emit (instr.StoreGlobal key index given) >> close how) s t tt ran
      in
      let given = a.0 in
      let m = a.1 in
      let store = instr.StoreGlobal key index given in
      let b = ran_both (emit store) (λ done. close how) m t tt a.3 in
      let u = b.1 in
      let fits_m = fits_between read (emit store >> close how) s m t given tt ready.going a.2 a.3 fits in
      let first = is [] s m given ready fits_m a.2 in
      let fits_u = fits_between (emit store) (close how) m u t tt tt first.ready.going b.2 b.3 fits in
      let second = did_emit p numbers m u (given.reg ∷ []) [] store tt
      (work.Then (work.StoreGlobal index)) (λ n all. tt)
      (λ f rings rest regs is stands. (key, (given, refl, (is, stands)))) first.ready fits_u b.2 in
      let both = did_both p numbers s m u [] (given.reg ∷ []) [] before
      (work.Then (work.StoreGlobal index)) first second in
      let c = closes f s u t how both.went (close_ran how u t tt both.ready.going b.3) has in
      both.stands f [] work.Finish c.final (c.ends u.vars [])
