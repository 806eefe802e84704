-- Settings that are being read, and what they come to (own).
use Rattle.std.specs.Prelude.{◌≡◌, ℕ, Bool, true, not, IfSome, nat_lt, List, [], ◌∷◌, ◌++◌, length, Option, Some, None, is_some, option_map, unwrap_or, if◌then◌else◌, codes, bytes_eq}
use Rattle.ws_model.specs.declared.event.Alg.{Alg}
use Rattle.ws_model.specs.declared.event.Alg.TheVariants.{Sha256}
use Rattle.ws_model.specs.declared.settings.Settings.{Settings}
use Rattle.ws_model.specs.Key.{is_key}
use Rattle.ws_program.specs.declared.draft.Draft.{Draft}
use Rattle.ws_program.specs.declared.draft.Setting.{Setting}
use Rattle.ws_program.specs.declared.draft.Setting.TheVariants as setting
use Rattle.ws_program.specs.Values.{hub_key, alg_of, address_of, is_allowed_prefix}

-- the setting of a word
abbrev pub setting_of : List ℕ → Option Setting
setting_of word =
    if bytes_eq word (codes "--hub") then Some setting.Hub
    else (if bytes_eq word (codes "--gateway") then Some setting.Gateway
    else (if bytes_eq word (codes "--alg") then Some setting.Alg
    else (if bytes_eq word (codes "--allow") then Some setting.Allow
    else None)))

abbrev pub nothing_set : Draft
nothing_set = record { hub = None; gateway = None; alg = None; allow = [] }

-- the hub's URL is a key, where one is set
abbrev pub HasKey : Draft → Type 0
HasKey draft = IfSome draft.hub (λ key. is_key key ≡ true)

-- a setting may stand once, and a prefix 16 times
abbrev pub may_set : Draft → Setting → Bool
may_set draft setting.Hub = not (is_some draft.hub)
may_set draft setting.Gateway = not (is_some draft.gateway)
may_set draft setting.Alg = not (is_some draft.alg)
may_set draft setting.Allow = nat_lt (length draft.allow) 16

-- the draft with one more setting, where the value has the form that this setting takes
abbrev pub with_value : Draft → Setting → List ℕ → Option Draft
with_value draft setting.Hub text =
    option_map (λ hub. record draft { hub = Some hub }) (hub_key text)
with_value draft setting.Gateway text =
    option_map (λ at. record draft { gateway = Some at }) (address_of text)
with_value draft setting.Alg text =
    option_map (λ alg. record draft { alg = Some alg }) (alg_of text)
with_value draft setting.Allow text =
    if is_allowed_prefix text then Some (record draft { allow = draft.allow ++ text ∷ [] }) else None

-- the URL of a hub that has no other
abbrev pub default_hub : List ℕ
default_hub = codes "http://127.0.0.1:8080/"

-- the settings, with the defaults of what isn't set
abbrev pub settings_from : Draft → Settings
settings_from draft =
    record {
      policy = record {
        hub = unwrap_or draft.hub default_hub;
        gateway = is_some draft.gateway;
        allow = draft.allow;
        alg = unwrap_or draft.alg Sha256;
      };
      gateway = draft.gateway;
    }
