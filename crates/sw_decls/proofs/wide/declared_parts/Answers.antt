use Rattle.sw_decl_words.proofs.WithinLemmas.{named_within}
use Rattle.std.proofs.Common.{length}
use Rattle.sw_decls.proofs.wide.declared_parts.Goals as goal

pub parts-requires : goal.parts-requires
parts-requires c = record {
  in_range = named_within (length c.args.shapes.now) c.args.number c.requires.within;
}
