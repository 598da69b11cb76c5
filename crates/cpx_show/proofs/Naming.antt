-- A legend beside the tables of a tree calls each component as the language does.
use Rattle.cp_tree.specs.Read.{IsRead}
use Rattle.cp_tree.specs.Syntax.{Tree}
use Rattle.cp_symbols.specs.declared.symbols.Symbols.{Symbols}
use Rattle.cp_slots.specs.Tables.{Tables}
use Rattle.cp_layout.specs.Laid.{whole}
use Rattle.cp_layout.specs.Symbols.{AreSymbolsOf}
use Rattle.cp_meaning_laws.specs.Accepted.{IsAccepted}
use Rattle.cp_resolved.specs.Resolving.{IsProgramOf}
use Rattle.cp_legend.specs.declared.legend.Legend as code_legend
use Rattle.cp_legend.specs.Names.{IsLegendOf, source_seen}
use Rattle.cp_legend_laws.proofs.PathsOfTree.{legend_law}
use Rattle.std.proofs.Math.Logic.{∥∥₁_map}
use Rattle.cpx_show.specs.Shown.{AreNamed}

pub named : (t : Tree) (r : Tables) (l : code_legend.Legend) (s : Symbols) → ∥ IsRead t.program ∥₁ → IsAccepted t → IsProgramOf t r → AreSymbolsOf s (whole t) → IsLegendOf l (source_seen s) r.components → AreNamed t r l
named t r l s read ok is noted legend =
    record {
      stands = is;
      symbols = s;
      noted = noted;
      legend = legend;
      called = ∥∥₁_map read (λ it. legend_law t s r l it ok noted is.laid legend);
    }
