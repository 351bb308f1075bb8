-- What tables of versions owe to the histories stays through exchanges. Source: this project.
use Rattle.std.specs.Prelude.{◌≡◌}
use Rattle.version_tables.specs.inner.Common.{ℕ, List, length, Entry, Table, IsProper, IsKeptByExchanges, MayMeet, StoodInEither, HistoriesView}
use Rattle.std.proofs.Common.{inl, inr, ◌∙◌}
use Rattle.model.proofs.Owns.{initiator_keeps_own, responder_keeps_own}
use Rattle.model.proofs.ExchangeLaws.{initiator_proper, responder_proper, initiator_either, responder_either}
use Rattle.version_tables.specs.inner.Histories.{FitsRun}

pub fits_stays : (written : ℕ → List Entry) (most : ℕ) (h : HistoriesView) → IsKeptByExchanges (FitsRun written most h)
fits_stays written most h rules e p q may fit_p fit_q = (
  after _ (initiator_proper rules e p q meet) ((initiator_keeps_own rules e p q).nodes ∙ fit_p.among.nodes)
      (initiator_either rules e p q meet),
  after _ (responder_proper rules e p q meet) ((responder_keeps_own rules e p q).nodes ∙ fit_q.among.nodes)
      (responder_either rules e p q meet),
)
  where
    meet : MayMeet e p q
    meet = record { initiator = fit_p.among.proper; responder = fit_q.among.proper; nodes = may.nodes; keys = may.keys; rotation = may.rotation }

    after : (t : Table) → IsProper t → t.nodes ≡ length h.lists → StoodInEither p q t → FitsRun written most h t
    after t proper nodes either = record {
      known = fit_p.known;
      among = record {
        proper = proper;
        nodes = nodes;
        holds = λ owner key x found.
            elim (either owner key x found) [ inl held ↦ fit_p.among.holds owner key x held | inr held ↦ fit_q.among.holds owner key x held ];
        made = fit_p.among.made;
      };
    }
