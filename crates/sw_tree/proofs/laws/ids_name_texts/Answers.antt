use Rattle.std.proofs.lemmas.List.Elements.{All-from_recursion}
use Rattle.sw_tree.proofs.NamesLemmas.{text_at_id, id_of_interned, id_stays, IsDistinct-with_text}
use Rattle.sw_tree.proofs.NamesLemmas.{ids_of_interned}
use Rattle.sw_tree.proofs.laws.ids_name_texts.Goals as goal

pub returns : goal.returns
returns c = record {
  text = text_at_id;
  interned = id_of_interned;
  stays = id_stays;
  distinct = IsDistinct-with_text;
  each = λ texts more. All-from_recursion _ more (ids_of_interned texts more);
}
