use Rattle.lie_identities.proofs.LineLemmas.{no_cover_lines}
use Rattle.lie_identities.proofs.audited.Audited.of.Goals as goal

pub invariant_of-result : goal.invariant_of-result
invariant_of-result c =
    rw (c.of.ensures, c.of-2.ensures, c.of-3.ensures, c.new.ensures)
    (record {
      loaded = c.loaded.ensures;
      shape = c.requires.shape;
      light = c.requires.light;
      meets = c.requires.meets;
      cover = no_cover_lines c.args.datum.now c.args.space;
    })
