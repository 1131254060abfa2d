-- What always holds of a manager as a node: it is never down, and has no disk.
use Rattle.std.proofs.Common.{sym, ap, subst}
use Rattle.std.proofs.lemmas.Bool.{false≢true}
use Rattle.node_steps.specs.Durable.{AreNodeDisks}
use Rattle.node_steps.specs.Ends.{AreLaid}
use Rattle.node_steps.specs.Nodes.{IsLawful, place_of, has_disks}
use Rattle.node_steps.specs.Promises.{no_disks}
use Rattle.manager_core.specs.declared.nodes.Manager.{Manager}
use Rattle.manager_core.specs.Standing.{StandsFor, node_state}

pub lawful : (m : Manager) → IsLawful (node_state m)
unfolding StandsFor
lawful m = record {
  tells = record {
    places = λ role owns s. sym (ap place_of s.0);
    with_disks = λ role owns s. sym (ap has_disks s.0);
    downs = λ role owns s. sym s.1.up;
  };
  keeps = record {
    given = λ down. absurd (false≢true down);
    stopped = λ down. absurd (false≢true down);
    crashed = λ down. absurd (false≢true down);
    restarted = λ stops. absurd (false≢true stops);
  };
  lies = λ start size. record {
    given = λ down input now role owns lies. tt;
    stopped = λ down calls now role owns lies. tt;
    crashed = λ down now role owns lies. tt;
    restarted = λ stops up pick calls now role owns lies. tt;
  };
  falls = λ down. down;
  device = λ role owns s. subst (λ r. AreNodeDisks r owns no_disks) (sym s.0) tt;
  laid = λ role start size owns s lies. subst (λ r. AreLaid r start size owns no_disks) (sym s.0) tt;
}
