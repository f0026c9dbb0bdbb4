-- What is known of a closure or a task where it stands.
use Rattle.std.proofs.Common.{◌≡◌, ℕ, Bool, true, false, ◌<◌, ◌⊎◌, inl, inr, List, Contains, map}
use Rattle.std.proofs.Common.{flat_map, arith}
use Rattle.std.specs.Prelude.{All}
use Rattle.sw_tree.specs.declared.expr.ClosureParam.{ClosureParam}
use Rattle.sw_tree.specs.declared.name.Name.{Name}
use Rattle.sw_types.specs.declared.isolation.Iso.{Iso}
use Rattle.sw_typing_rules.specs.declared.scope.Var.{Var}
use Rattle.sw_isolation_rules.specs.Captures.{is_among, mentioned, self_of, taken, variables}
use Rattle.sw_isolation_rules.specs.Kinds.{is_own}
use Rattle.sw_isolation_rules.specs.Lists.{vars_in}
use Rattle.sw_isolation_rules.specs.Noting.{Notes, in_closure, inner_notes, with_list}
use Rattle.sw_isolation_rules.specs.declared.note.Mention.{Mention}
use Rattle.sw_isolation_rules.specs.declared.note.Note.{Note}
use Rattle.sw_isolation_rules.specs.declared.uses.Context.{Context}
use Rattle.sw_lower_rules.specs.Tables.{Tables}
use Rattle.sw_lower_total_facts.specs.Bound.{seen_in}
use Rattle.sw_lower_total_facts.proofs.Closures.Noted.{capture_as}

-- A closure or a task where it stands: the context around it, the variables that the closures
-- around list, and those that are seen; how its body is isolated, and whether it is asynchronous;
-- and its key, the words of its list, its parameters, and what is noted of its block.
pub record Enclosure : Type 0 where
  pub context : Context
  pub listed : List ℕ
  pub vars : List Var
  pub iso : Iso
  pub is_async : Bool
  pub at : ℕ
  pub words : List Name
  pub params : List ClosureParam
  pub body : Notes

module _ (tables : Tables) (one : Enclosure) where
  -- the context of its body
  abbrev pub within : Context
  within = in_closure one.context one.iso one.is_async

  -- the variables that it lists, after those that are listed around it
  abbrev pub lists : List ℕ
  lists = with_list tables.world tables.answers within one.listed one.words

  -- what is noted inside it, of its block among it
  abbrev pub inside : List Note
  inside = inner_notes tables.world tables.answers one.words one.body within one.listed

  abbrev pub block : List Note
  block = one.body within lists

  -- what it takes
  abbrev pub takes : List Mention
  takes = taken tables.world within one.at inside

  -- the variables that are seen around it
  abbrev pub outside : List ℕ
  outside = seen_in tables one.context.owner one.vars

  -- A variable is seen around it and declared before it, or declared after it and not seen around
  -- it.
  abbrev pub IsTold : ℕ → Type 0
  IsTold key = (Contains outside key × (key < one.at))
      ⊎ ((one.at < key) × (Contains outside key → ⊥))

-- It is isolated to `self` only where the body around it is. Its captures are what it takes. `self`
-- is declared before it, and keys tell which of the variables that are mentioned inside are seen
-- around it. No parameter is declared by `var`.
pub record IsEnclosed (tables : Tables) (all : List Note) (one : Enclosure) : Type 0 where
  pub isolated : is_own one.iso ≡ true → is_own one.context.iso ≡ true
  pub captures : tables.isolation.captures_of one.at
      ≡ map (capture_as all one.at (lists tables one)) (takes tables one)
  pub own : (key : ℕ) → Contains (self_of tables.world one.context.owner) key → key < one.at
  pub told : (key : ℕ) → Contains (variables (flat_map mentioned (inside tables one))) key
      → IsTold tables one key
  pub params_fixed : All (λ (param : ClosureParam). is_among (vars_in all) param.name.at ≡ false)
      one.params

module _ (tables : Tables) (all : List Note) (one : Enclosure)
    (enclosed : IsEnclosed tables all one) (key : ℕ)
    (there : Contains (variables (flat_map mentioned (inside tables one))) key) where
  -- What is mentioned inside and declared before it is seen around it.
  pub seen_before : key < one.at → Contains (outside tables one) key
  seen_before before = by (enclosed.told key there) where
    by : IsTold tables one key → Contains (outside tables one) key
    by (inl around) = around.0
    by (inr within) = absurd (omega (arith, before, within.0))

  -- And what is mentioned inside and seen around it is declared before it.
  pub before_seen : Contains (outside tables one) key → key < one.at
  before_seen around = by (enclosed.told key there) where
    by : IsTold tables one key → key < one.at
    by (inl outer) = outer.1
    by (inr within) = absurd (within.1 around)
