-- What is mentioned at a node.
use Rattle.std.proofs.Common.{◌≡◌, ℕ, List, [], ◌∷◌, Option, Some, ap, sym, subst, map}
use Rattle.std.proofs.lemmas.List.Elements.{Contains-append_left}
use Rattle.std.specs.Prelude.{Contains, flat_map}
use Rattle.sw_list.proofs.Members.{in_flat_map}
use Rattle.sw_tree.proofs.Members.{in_map}
use Rattle.sw_types.specs.declared.shape.Shape.{Shape}
use Rattle.sw_typing_rules.specs.Worlds.{World, item}
use Rattle.sw_typing_rules.specs.declared.row.Meaning.{Meaning}
use Rattle.sw_typing_rules.specs.declared.row.Meaning.TheVariants as means
use Rattle.sw_typing_rules.specs.declared.scope.Var.{Var}
use Rattle.sw_isolation_rules.specs.Answers.{Answers, for_some}
use Rattle.sw_isolation_rules.specs.Captures.{me_mentions, meant_mentions, mention, mentioned}
use Rattle.sw_isolation_rules.specs.Captures.{self_of, word_mentions}
use Rattle.sw_isolation_rules.specs.Noting.{me_notes, mention_notes}
use Rattle.sw_isolation_rules.specs.declared.note.Mention.{Mention}
use Rattle.sw_isolation_rules.specs.declared.note.Note.{Note}
use Rattle.sw_isolation_rules.specs.declared.note.Note.TheVariants.{Mentioned}
use Rattle.sw_isolation_rules.specs.declared.uses.Context.{Context}
use Rattle.sw_lower_rules.specs.Tables.{Tables}
use Rattle.sw_typing_facts.proofs.Lists.Listed.{in_first}
use Rattle.sw_lower_total_facts.specs.Bound.{seen_in}
use Rattle.sw_lower_total_facts.specs.Noted.{mentions}

-- What is noted as mentioned is mentioned.
pub mention_in : (notes : List Note) (one : Mention) → Contains notes (Mentioned one)
    → Contains (mentions notes) one.variable
mention_in notes one has =
    in_map (λ (other : Mention). other.variable) (flat_map mentioned notes) one
    (in_flat_map mentioned notes (Mentioned one) one has (in_first one []))

-- `self`, in a member of a type that is there
pub self_is : (world : World) (owner : Option ℕ) (shape : Shape)
    → item owner world.shapes ≡ Some shape → self_of world owner ≡ shape.at ∷ []
self_is world owner shape is = ap (λ found. for_some found (λ (s : Shape). s.at ∷ [])) is

-- It is seen there.
pub self_seen : (tables : Tables) (owner : Option ℕ) (vars : List Var) (shape : Shape)
    → item owner tables.world.shapes ≡ Some shape → Contains (seen_in tables owner vars) shape.at
self_seen tables owner vars shape is =
    Contains-append_left (self_of tables.world owner) (map (λ (one : Var). one.at) vars) shape.at
    (subst (λ keys. Contains keys shape.at) (sym (self_is tables.world owner shape is))
    (in_first shape.at []))

module _ (world : World) (answers : Answers) (context : Context) (at : ℕ) where
  -- what a word mentions, by its meaning
  meant_notes : (meaning : Meaning) → answers.meaning_at at ≡ Some meaning
      → mention_notes world answers context at
      ≡ map Mentioned (meant_mentions world context.owner at meaning)
  unfolding word_mentions
  meant_notes meaning is =
      ap (λ found. map Mentioned (for_some found (meant_mentions world context.owner at))) is

  -- the word of a variable
  pub local_mentioned : (variable : ℕ) → answers.meaning_at at ≡ Some (means.Local variable)
      → Contains (mentions (mention_notes world answers context at)) variable
  local_mentioned variable is =
      mention_in (mention_notes world answers context at) (mention variable at)
      (subst (λ notes. Contains notes (Mentioned (mention variable at)))
      (sym (meant_notes (means.Local variable) is)) (in_first (Mentioned (mention variable at)) []))

  -- the word `self`
  pub self_mentioned : (shape : Shape) → item context.owner world.shapes ≡ Some shape
      → Contains (mentions (me_notes world context at)) shape.at
  unfolding me_mentions
  self_mentioned shape is =
      mention_in (me_notes world context at) (mention shape.at at)
      (subst (λ keys. Contains (map Mentioned (map (λ me. mention me at) keys))
      (Mentioned (mention shape.at at)))
      (sym (self_is world context.owner shape is)) (in_first (Mentioned (mention shape.at at)) []))

  -- a word before which `self` is left out: a property and a method of the type around
  pub own_part_mentioned : (number : ℕ) (shape : Shape)
      → answers.meaning_at at ≡ Some (means.OwnPart number)
      → item context.owner world.shapes ≡ Some shape
      → Contains (mentions (mention_notes world answers context at)) shape.at
  own_part_mentioned number shape means_is is =
      subst (λ notes. Contains (mentions notes) shape.at)
      (sym (meant_notes (means.OwnPart number) means_is)) (self_mentioned shape is)

  pub own_func_mentioned : (number : ℕ) (shape : Shape)
      → answers.meaning_at at ≡ Some (means.OwnFunc number)
      → item context.owner world.shapes ≡ Some shape
      → Contains (mentions (mention_notes world answers context at)) shape.at
  own_func_mentioned number shape means_is is =
      subst (λ notes. Contains (mentions notes) shape.at)
      (sym (meant_notes (means.OwnFunc number) means_is)) (self_mentioned shape is)
