-- What is known of variables where code begins is known after the code too, and code after code
-- proceeds where each does.
use Rattle.std.proofs.Common.{◌≡◌, ℕ, ◌⊎◌, inl, inr, Bool, true, false, List, [], ◌∷◌, ◌++◌}
use Rattle.std.proofs.Common.{Some, subst, sym, ◌∙◌}
use Rattle.std.proofs.lemmas.List.Elements.{Contains-append_left, Contains-append_right}
use Rattle.std.specs.Prelude.{Ok, Contains, flat_map, ◌==◌, if◌then◌else◌}
use Rattle.sw_list.proofs.Members.{in_flat_map, of_flat_map}
use Rattle.sw_tree.proofs.Members.{in_map, of_map}
use Rattle.sw_isolation_rules.specs.Captures.{mentioned, self_of}
use Rattle.sw_isolation_rules.specs.Kinds.{is_own}
use Rattle.sw_isolation_rules.specs.Lists.{held_in}
use Rattle.sw_isolation_rules.specs.declared.note.Mention.{Mention}
use Rattle.sw_isolation_rules.specs.declared.note.Note.{Note}
use Rattle.sw_isolation_rules.specs.declared.uses.Context.{Context}
use Rattle.sw_lower_plans.specs.Plan.{Numbers, Piece, var_in}
use Rattle.sw_lower_plans.specs.Run.{Making, Makes, place_of}
use Rattle.sw_lower_plans.specs.declared.bound.Bound.{Bound}
use Rattle.sw_lower_code.specs.Code.{Code, andthen}
use Rattle.sw_lower_rules.specs.Tables.{Tables}
use Rattle.sw_lower_total_facts.specs.Bound.{VariableIsBound, Ready}
use Rattle.sw_lower_total_facts.specs.Noted.{HasHeld, mentions}
use Rattle.sw_lower_total_facts.specs.Proceeding.{Proceeds}
use Rattle.sw_lower_total_facts.proofs.Proceeding.Then.{Ran, proceeds_then}

abbrev variable_of : Mention → ℕ
variable_of one = one.variable

module _ (fewer notes : List Note)
    (among : (note : Note) → Contains fewer note → Contains notes note) where
  flat_less : {A : Type 0} (f : Note → List A) (y : A) → Contains (flat_map f fewer) y
      → Contains (flat_map f notes) y
  flat_less f y has =
      let (note, noted, inside) = of_flat_map f fewer y has in
      in_flat_map f notes note y (among note noted) inside

  -- What fewer notes mention is mentioned.
  pub mentions_less : (key : ℕ) → Contains (mentions fewer) key → Contains (mentions notes) key
  mentions_less key has =
      let (one, noted, is) = of_map variable_of (flat_map mentioned fewer) key has in
      subst (Contains (mentions notes)) is
      (in_map variable_of (flat_map mentioned notes) one (flat_less mentioned one noted))

  -- and what is taken by a closure among them
  pub held_less : HasHeld fewer → HasHeld notes
  held_less holds = (holds.0, flat_less held_in holds.0 holds.1)

-- What is found among variables is found among these and more.
pub var_more : (key : ℕ) (vars more : List Bound) (bound : Bound) → var_in key vars ≡ Some bound
    → var_in key (vars ++ more) ≡ Some bound
var_more key [] more bound is = cc
var_more key (one ∷ vars) more bound is =
    by (one.key == key) (var_more key vars more bound) is where
      by : (test : Bool) → (var_in key vars ≡ Some bound → var_in key (vars ++ more) ≡ Some bound)
          → (if test then Some one else var_in key vars) ≡ Some bound
          → (if test then Some one else var_in key (vars ++ more)) ≡ Some bound
      by true later is = is
      by false later is = later is

-- a variable that is bound, where others were bound since
pub bound_more : (tables : Tables) (listed : List ℕ) (vars more : List Bound) (key : ℕ)
    → VariableIsBound tables listed vars key → VariableIsBound tables listed (vars ++ more) key
bound_more tables listed vars more key one = record {
  bound = one.bound;
  found = var_more key vars more one.bound one.found;
  typed = one.typed;
  in_box = one.in_box;
}

-- and after a piece of code
pub bound_after : {A : Type 0} (tables : Tables) (listed : List ℕ) (piece : Piece A)
    (s t : Making) (key : ℕ) → Makes piece s t → VariableIsBound tables listed s.vars key
    → VariableIsBound tables listed t.vars key
bound_after tables listed piece s t key makes one =
    subst (λ vars. VariableIsBound tables listed vars key) (sym makes.vars)
    (bound_more tables listed s.vars piece.vars key one)

module _ (tables : Tables) (number : Numbers) (context : Context) (listed : List ℕ) where
  -- What is known where code begins is known after it.
  pub ready_after : {A : Type 0} (piece : Piece A) (seen : List ℕ) (notes : List Note)
      (s t : Making) → Makes piece s t → Ready tables number context listed seen notes s
      → Ready tables number context listed seen notes t
  ready_after piece seen notes s t makes ready = record {
    going = makes.there;
    numbers = makes.number ∙ ready.numbers;
    vars = λ key is_seen has.
        bound_after tables listed piece s t key makes (ready.vars key is_seen has);
    held = λ own holds key has.
        bound_after tables listed piece s t key makes (ready.held own holds key has);
  }

  -- the same for fewer notes
  pub ready_less : (seen : List ℕ) (notes fewer : List Note) (s : Making)
      → ((note : Note) → Contains fewer note → Contains notes note)
      → Ready tables number context listed seen notes s
      → Ready tables number context listed seen fewer s
  ready_less seen notes fewer s among ready = record {
    going = ready.going;
    numbers = ready.numbers;
    vars = λ key is_seen has. ready.vars key is_seen (mentions_less fewer notes among key has);
    held = λ own holds. ready.held own (held_less fewer notes among holds);
  }

  -- for the first of the notes
  pub ready_left : (seen : List ℕ) (first second : List Note) (s : Making)
      → Ready tables number context listed seen (first ++ second) s
      → Ready tables number context listed seen first s
  ready_left seen first second s ready =
      ready_less seen (first ++ second) first s (Contains-append_left first second) ready

  -- and for the last
  pub ready_right : (seen : List ℕ) (first second : List Note) (s : Making)
      → Ready tables number context listed seen (first ++ second) s
      → Ready tables number context listed seen second s
  ready_right seen first second s ready =
      ready_less seen (first ++ second) second s (Contains-append_right first second) ready

  -- where more variables are seen, those among them that are new are bound
  pub ready_seen : (seen more : List ℕ) (notes : List Note) (s : Making)
      → ((key : ℕ) → Contains more key → Contains seen key
      ⊎ VariableIsBound tables listed s.vars key)
      → Ready tables number context listed seen notes s
      → Ready tables number context listed more notes s
  ready_seen seen more notes s news ready = record {
    going = ready.going;
    numbers = ready.numbers;
    vars = λ key is_seen has. by key has (news key is_seen);
    held = ready.held;
  } where
    by : (key : ℕ) → Contains (mentions notes) key
        → Contains seen key ⊎ VariableIsBound tables listed s.vars key
        → VariableIsBound tables listed s.vars key
    by key has (inl before) = ready.vars key before has
    by key has (inr bound) = bound

  -- in a context of the same isolation and type around
  pub ready_in : (other : Context) (seen : List ℕ) (notes : List Note) (s : Making)
      → other.iso ≡ context.iso → other.owner ≡ context.owner
      → Ready tables number context listed seen notes s
      → Ready tables number other listed seen notes s
  ready_in other seen notes s iso owner ready = record {
    going = ready.going;
    numbers = ready.numbers;
    vars = ready.vars;
    held = λ own holds key has.
        ready.held (subst (λ i. is_own i ≡ true) iso own) holds key
        (subst (λ o. Contains (self_of tables.world o) key) owner has);
  }

  module _ (seen : List ℕ) (notes : List Note) where
    -- Code after code proceeds, where what is known before is known in between.
    pub then_ready : {A B : Type 0} (first : Code A) (next : A → Code B) (s : Making)
        → Ready tables number context listed seen notes s → Proceeds s first
        → ((value : A) (t : Making) → Ready tables number context listed seen notes t
        → first.run s ≡ Ok (value, t) → Ran first s value t → Proceeds t (next value))
        → Proceeds s (andthen first next)
    then_ready first next s ready one two =
        proceeds_then first next s ready.going one
        (λ value t ran made.
        two value t (ready_after (first.plan (place_of s)) seen notes s t made.1 ready) ran made)
