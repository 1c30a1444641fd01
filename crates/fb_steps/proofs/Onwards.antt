-- A place with a legal context goes on to such places, where its items have derivations.
use Rattle.std.proofs.Common.{ℕ, zero, suc, List, [], ◌∷◌, ◌-◌, drop, length}
use Rattle.ld_terms.specs.Entry.{Env, defined}
use Rattle.ld_terms.specs.Derivable.{IsLegalContext, def, weak}
use Rattle.ld_laws.proofs.LegalContexts.{last_of, legal_of}
use Rattle.fb_steps.specs.Items.{Item}
use Rattle.fb_steps.specs.Places.{OpenFlag, Place, context_of}
use Rattle.fb_steps.specs.Spells.{Derives}
use Rattle.fb_steps.specs.Spells as spelled
use Rattle.fb_steps.specs.Laws.{PlacesLegal}

outer_legal : {Δ : Env} (n : ℕ) (fs : List OpenFlag) → IsLegalContext Δ (context_of fs) → IsLegalContext Δ (context_of (drop n fs))
outer_legal zero fs l = l
outer_legal (suc n) [] l = l
outer_legal (suc n) (f ∷ fs) l = outer_legal n fs (legal_of (last_of l).typed)

onwards : {first : ℕ} {name : ℕ → List ℕ} {p q : Place} {items : List Item} → Derives first name p items q → IsLegalContext p.env (context_of p.flags) → IsLegalContext q.env (context_of q.flags)
onwards spelled.Derives.none l = l
onwards {p = p} (spelled.Derives.flag {depth = depth} le h d) l = onwards d (weak h.is_sort (outer_legal (length p.flags - depth) p.flags l) h.typed)
onwards {p = p} (spelled.Derives.line {depth = depth} t le m b f h d) l = onwards d (def defined f (outer_legal (length p.flags - depth) p.flags l) h)

pub places_legal : PlacesLegal
places_legal first name p q items l d = onwards d l
