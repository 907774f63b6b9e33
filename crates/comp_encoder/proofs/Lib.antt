mod Refused
mod Naming
mod Answered
mod MeetingNames
mod ExportsApart
