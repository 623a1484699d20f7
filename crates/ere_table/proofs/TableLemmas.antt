-- The law of a table, from the expression that stands in it.
use Rattle.std.proofs.Common.{◌≡◌, ℕ, List, zero, suc, sym, subst}
use Rattle.std.specs.FinMap.{empty}
use Rattle.ere_tree.specs.Tree.{Tree}
use Rattle.ere_tree.specs.Derivation.{Derives}
use Rattle.ere_table.specs.Node.{Node, stop, node_at}
use Rattle.ere_table.specs.Path.{Edge, Path, LeadsAs}
use Rattle.ere_table.specs.Stands.{Stands}
use Rattle.ere_table.proofs.PathLemmas.{complete}
use Rattle.ere_table.proofs.SoundLemmas.{sound}
use Rattle.ere_table.specs.declared.node.EreNode as code

-- a path from the stop has no edge
ends_there : (s : List ℕ) (T : ℕ → Node) (f : ℕ) → T f ≡ stop → (k m j : ℕ) → Path s T k f m f j → m ≡ j
ends_there s T f z zero m j h = sym h.1
ends_there s T f z (suc k) m j h = absurd (subst (λ x. Edge s x m h.0 h.1) z h.2)

pub leads_as : (nodes : List code.EreNode) (entry : ℕ) (t : Tree) → node_at nodes 0 ≡ stop
    → Stands (node_at nodes) t entry 0 → LeadsAs nodes entry t
leads_as nodes entry t z h = record {
  sound = λ s i j b p.
      let found = sound s (node_at nodes) 0 z t p.0 entry 0 i j empty b h p.1 in (
        found.2,
        empty,
        found.3,
        subst (λ x. Derives s t found.2 i x empty found.3)
            (ends_there s (node_at nodes) 0 z found.1 found.0 j found.6) found.5,
      );
  complete = λ s i j g. complete s (node_at nodes) t entry 0 g.0 i j g.1 g.2 h g.3;
}
