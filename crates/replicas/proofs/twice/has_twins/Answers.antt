use Rattle.std.proofs.Common.{rules, tests}
use Rattle.std.proofs.lemmas.Iterator.Search.{any_from_yields_List}
use Rattle.std.specs.Simd.{first_chunks}
use Rattle.lists.proofs.Prelude.{◌∙◌, ◌/◌, length}
use Rattle.replicas.proofs.ChunkLaws.{YieldsList-from_pairs, together, twins_any}
use Rattle.replicas.proofs.twice.has_twins.Goals as goal

pub returns : goal.returns
returns c =
    let cells = c.args.cells.now in
    let road = YieldsList-from_pairs (first_chunks 3 (length cells / 3) cells) (c.array_windows.ensures.rest ∙ c.as_chunks.ensures.front) c.array_windows.ensures.size in
    any_from_yields_List together _ _ c.any.result c.any.ensures.ran road (λ x b q k. search (rules, tests)) ∙ twins_any (length cells / 3) cells
